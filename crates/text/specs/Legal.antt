-- Where a line breaks the law of its lines. A law says of each line whether it is legal.
use Rattle.std.specs.Prelude.{◌≡◌, ℕ, ◌+◌, ◌<◌, ◌≤◌, List, ◌++◌, length, take, Ok, Err, Result}

-- some legal line begins so
abbrev pub StartOf : (List ℕ → Type 0) → List ℕ → Type 0
StartOf Legal s = (more : List ℕ) × Legal (s ++ more)

-- the line is not legal, and this is the first place such that the line up to and including it begins no legal line; where there is none, it is the line's length
pub record IllegalAt (Legal : List ℕ → Type 0) (line : List ℕ) (place : ℕ) : Type 0 where
  pub within : place ≤ length line
  pub start : StartOf Legal (take place line)
  pub stray : place < length line → StartOf Legal (take (place + 1) line) → ⊥
  pub illegal : Legal line → ⊥

-- some good value is written as this line
abbrev pub LineOf : {A : Type 0} → (A → Type 0) → (A → List ℕ) → List ℕ → Type 0
LineOf {A} Good write line = (a : A) × Good a × (write a ≡ line)

-- what a line reads as says of it: a good value that is written as this line, or where the line is illegal
abbrev pub Tells : {A : Type 0} → (A → Type 0) → (A → List ℕ) → List ℕ → Result A ℕ → Type 0
Tells Good write line (Ok a) = Good a × (write a ≡ line)
Tells Good write line (Err place) = IllegalAt (LineOf Good write) line place
