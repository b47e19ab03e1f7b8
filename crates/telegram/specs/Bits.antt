-- Bits and fields of a telegram.
use Rattle.std.specs.Prelude.{ℕ, zero, suc, ◌+◌, ◌-◌, ◌*◌, ◌/◌, ◌%◌, ◌^◌, List, slice_index}

-- the bit at a place of the bytes, each byte's highest bit first; 0 behind the last byte
abbrev pub bit : List ℕ → ℕ → ℕ
bit bytes i = slice_index bytes (i / 8) / 2 ^ (7 - i % 8) % 2

-- the number that so many bits from a place on make, the first the highest, where f tells each bit by its place
abbrev pub number : (ℕ → ℕ) → ℕ → ℕ → ℕ
number f at zero = 0
number f at (suc w) = number f at w * 2 + f (at + w)

-- the value of the field of w bits at a place of the bytes
unfoldable pub field : List ℕ → ℕ → ℕ → ℕ
field bytes at w = number (bit bytes) at w
