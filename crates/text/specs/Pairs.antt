-- Pairs of hexadecimal digits that fill the rest of a line.
use Rattle.std.specs.Prelude.{ℕ, zero, suc, ◌+◌, ◌*◌, List, [], ◌∷◌, drop, Some, None, Ok, Err, Option}
use Rattle.text.specs.Parts.{Reading, hex_value}

-- this byte in front of the others
abbrev pub in_front : ℕ → Reading (List ℕ) → Reading (List ℕ)
in_front b (Ok p) = Ok (b ∷ p.0, p.1)
in_front b (Err place) = Err place

-- the byte of two hexadecimal digits, and those behind it; at is the place of the first digit
abbrev pub pair_then : Option ℕ → Option ℕ → ℕ → Reading (List ℕ) → Reading (List ℕ)
pair_then None low at others = Err at
pair_then (Some h) None at others = Err (at + 1)
pair_then (Some h) (Some l) at others = in_front (16 * h + l) others

-- pairs of hexadecimal digits up to the end of the line, at most so many
abbrev pub pairs_from : ℕ → List ℕ → ℕ → Reading (List ℕ)
pairs_from most [] at = Ok ([], at)
pairs_from zero (h ∷ cs) at = Err at
pairs_from (suc most) (h ∷ []) at = pair_then (hex_value h) None at (Err at)
pairs_from (suc most) (h ∷ (l ∷ cs)) at = pair_then (hex_value h) (hex_value l) at (pairs_from most cs (at + 2))

-- the bytes of the pairs that stand from this place on, at most so many
unfoldable pub pairs_at : ℕ → List ℕ → ℕ → Reading (List ℕ)
pairs_at most line at = pairs_from most (drop at line) at
