-- How the values of a telegram lie in its bits.
use Rattle.std.specs.Prelude.{ℕ, ◌-◌, ◌*◌, ◌/◌, ◌%◌, ◌^◌, Bool, cond, List, [], ◌∷◌, map, nat_lt}
use Rattle.std.specs.List.{list_all, range_with_len}
use Rattle.telegram.specs.Bits.{number}
use Rattle.writer.specs.declared.draft.Draft.{Draft}
use Rattle.writer.specs.declared.layout.Field.{Field}

-- a value in so many bits
abbrev pub in_bits : ℕ → ℕ → Field
in_bits v w = record { value = v; width = w }

-- header, TBL1+ packet and packet 255, field by field
unfoldable pub layout : Draft → List Field
layout d =
    in_bits 1 1
    ∷ (in_bits d.version 7
    ∷ (in_bits 0 1
    ∷ (in_bits d.position 3
    ∷ (in_bits d.total 3
    ∷ (in_bits d.duplicate 2
    ∷ (in_bits d.counter 8
    ∷ (in_bits d.country 10
    ∷ (in_bits d.group 14
    ∷ (in_bits d.link 1
    ∷ (in_bits 44 8
    ∷ (in_bits d.direction 2
    ∷ (in_bits 48 13
    ∷ (in_bits 13 9
    ∷ (in_bits d.first 8
    ∷ (in_bits d.second 8
    ∷ (in_bits 255 8
    ∷ []))))))))))))))))

-- a value fits the bits that it takes
abbrev pub fits : Field → Bool
fits f = nat_lt f.value (2 ^ f.width)

-- each value fits its field
abbrev pub all_fit : List Field → Bool
all_fit fs = list_all fits fs

-- the bit at a place of fields that lie end to end, each with its highest bit first; behind them 104 ones, and then zeros
abbrev pub laid_bit : List Field → ℕ → ℕ
laid_bit [] i = cond (nat_lt i 104) 1 0
laid_bit (f ∷ fs) i = cond (nat_lt i f.width) (f.value / 2 ^ (f.width - 1 - i) % 2) (laid_bit fs (i - f.width))

-- the 27 bytes that these bits make
unfoldable pub laid_bytes : List Field → List ℕ
laid_bytes fs = map (λ k. number (laid_bit fs) (8 * k) 8) (range_with_len 0 27)
