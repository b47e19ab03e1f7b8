-- The emergency brake valve behind an output word.
use Rattle.std.specs.Prelude.{ℕ, Bool, ◌==◌}

-- exactly one word feeds the valve, and every other word cuts it
abbrev pub feeds : ℕ → Bool
feeds word = word == 0xA5C3_5A3C
