-- What a command line asks.
use Rattle.std.specs.Prelude.{ℕ}
use Rattle.bench.specs.declared.command.Command.{Command}
use Rattle.bench.specs.declared.command.Command.TheVariants.{Write, Read, Hear, Forget}

-- the letter that a command begins with: W, R, G or F
abbrev pub letter_of : Command → ℕ
letter_of (Write d) = 87
letter_of (Read r) = 82
letter_of (Hear r) = 71
letter_of Forget = 70
