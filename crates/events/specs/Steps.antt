-- What the reader's small steps give.
use Rattle.std.specs.Prelude.{ℕ, ◌+◌, ◌-◌, List, Some, None, Ok, Option, slice_get, if◌then◌else◌}
use Rattle.text.specs.Parts.{Reading, and_then, digit}

-- a part, with what its value means
abbrev pub meaning : {A B : Type 0} → (A → B) → (List ℕ → ℕ → Reading A) → List ℕ → ℕ → Reading B
meaning f part line at = and_then (part line at) (λ a n. Ok (f a, n))

-- the value of this byte, which is passed, if it is a decimal digit
abbrev pub digit_by : Option ℕ → ℕ → Reading (Option ℕ)
digit_by (Some c) at = if digit c then Ok (Some (c - 48), at + 1) else Ok (None, at)
digit_by None at = Ok (None, at)

-- the value of the decimal digit that stands here, which is passed, if one does
abbrev pub digit_at : List ℕ → ℕ → Reading (Option ℕ)
digit_at line at = digit_by (slice_get line at) at
