-- How the reader's steps go on.
use Rattle.std.proofs.Common.{◌≡◌, ℕ, zero, suc, ◌+◌, ◌-◌, ◌*◌, Bool, true, false, cond, eqb, List, [], ◌∷◌, length, slice_get, drop, Some, None, Ok, Err, Option, refl, ap, ◌∙◌, add-zero, zero-add, arith}
use Rattle.std.specs.Option.{option_eq}
use Rattle.text.specs.Parts.{Reading, and_then, byte_in, byte_at, digit}
use Rattle.events.specs.Heard.{number, speed_of}
use Rattle.events.specs.Reads.{digits_in, speed_from, speed_at}
use Rattle.events.specs.Said.{Written, lost, digits}
use Rattle.events.specs.Steps.{meaning, digit_by, digit_at}
use Rattle.text.proofs.Loops.{at_get}

-- a speed

abbrev Numeral : Type 0
Numeral = List ℕ → ℕ → Reading (Option ℕ)

-- where a digit was read, it goes on this value; otherwise the value is complete
abbrev pub onto : (ℕ → Numeral) → ℕ → Option ℕ → Numeral
onto others v None line at = Ok (Some v, at)
onto others v (Some d) line at = others (v * 10 + d) line at

-- so many digits at most go on this value
abbrev pub up_to : ℕ → ℕ → Numeral
up_to zero v line at = Ok (Some v, at)
up_to (suc most) v line at = and_then (digit_at line at) (λ o n. onto (up_to most) v o line n)

-- a number begins with the digit that was read
abbrev pub begun : Option ℕ → Numeral
begun None line at = Err at
begun (Some d) line at = up_to 2 d line at

module _ (line : List ℕ) where
  abbrev made : ℕ → List ℕ → ℕ → Reading (Option ℕ)
  made v ds at = Ok (Some (number v ds), at + length ds)

  up_to_is : (most v at : ℕ) → made v (digits_in most (drop at line)) at ≡ up_to most v line at
  up_to_is zero v at = ap (λ (n : ℕ). Ok (Some v, n)) (add-zero at)
  up_to_is (suc most) v at = at_get (λ o xs. made v (digits_in (suc most) xs) at ≡ and_then (digit_by o at) (λ d n. onto (up_to most) v d line n)) line at (λ c l. some c (up_to_is most (v * 10 + (c - 48)) (at + 1)) (digit c)) ends
    where
      ends : made v [] at ≡ Ok (Some v, at)
      ends = ap (λ (n : ℕ). Ok (Some v, n)) (add-zero at)

      place : (n : ℕ) → at + suc n ≡ at + 1 + n
      place n = omega arith

      some : (c : ℕ) → made (v * 10 + (c - 48)) (digits_in most (drop (at + 1) line)) (at + 1) ≡ up_to most (v * 10 + (c - 48)) line (at + 1) → (b : Bool) → made v (cond b ((c - 48) ∷ digits_in most (drop (at + 1) line)) []) at ≡ and_then (cond b (Ok (Some (c - 48), at + 1)) (Ok (None, at))) (λ d n. onto (up_to most) v d line n)
      some c more false = ends
      some c more true =
          let ds = digits_in most (drop (at + 1) line) in
          ap (λ (n : ℕ). Ok (Some (number (v * 10 + (c - 48)) ds), n)) (place (length ds)) ∙ more

  abbrev digits_here : ℕ → ℕ → Bool → Reading Written
  digits_here at c b = cond b (Ok (digits ((c - 48) ∷ digits_in 2 (drop (at + 1) line)), at + 1 + length (digits_in 2 (drop (at + 1) line)))) (Err at)

  abbrev read_as : Reading Written → Reading (Option ℕ)
  read_as r = and_then r (λ v n. Ok (speed_of v, n))

  -- an L, and the speed is lost; or a number
  pub speed_is : (at : ℕ) → meaning speed_of speed_at line at ≡ cond (option_eq eqb (slice_get line at) (Some 76)) (and_then (byte_at line at) (λ c n. Ok (None, n))) (and_then (digit_at line at) (λ d n. begun d line n))
  unfolding speed_at
  speed_is at = at_get (λ o xs. read_as (speed_from xs at) ≡ cond (option_eq eqb o (Some 76)) (and_then (byte_in o at) (λ c n. Ok (None, n))) (and_then (digit_by o at) (λ d n. begun d line n))) line at (λ c l. some c (eqb c 76) (digit c)) refl
    where
      some : (c : ℕ) (b k : Bool) → read_as (cond b (Ok (lost, at + 1)) (digits_here at c k)) ≡ cond b (Ok (None, at + 1)) (and_then (cond k (Ok (Some (c - 48), at + 1)) (Ok (None, at))) (λ d n. begun d line n))
      some c true k = refl
      some c false false = refl
      some c false true = ap (λ (v : ℕ). made v (digits_in 2 (drop (at + 1) line)) (at + 1)) (zero-add (c - 48)) ∙ up_to_is 2 (c - 48) (at + 1)
