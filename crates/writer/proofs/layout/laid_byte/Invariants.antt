use Rattle.std.proofs.Common.{◌≡◌}
use Rattle.telegram.specs.Bits.{number}
use Rattle.writer.specs.Layouts.{laid_bit}
use Rattle.writer.proofs.layout.laid_byte.Given as goal

abbrev pub invariant-loop-k : goal.invariant-loop-k
invariant-loop-k l = l.byte ≡ number (laid_bit l.fields) l.place l.k
