-- A table whose entries stand at the places of their values.
use Rattle.std.proofs.Common.{◌≡◌, ℕ, zero, suc, ◌<◌, Bool, true, ◌&&◌, eqb, List, length, get_or, Some, sym, refl, ap, ◌∙◌}
use Rattle.std.proofs.lemmas.Option.{get_or_from_slice_get, slice_get_within}
use Rattle.std.proofs.lemmas.Bool.Decides.{Decides-eqb, Decides-below_and}
use Rattle.std.specs.List.{slice_get}

-- the first n entries have the values of their places
abbrev pub placed : {X : Type 0} → (X → ℕ) → X → List X → ℕ → Bool
placed value d xs zero = true
placed value d xs (suc n) = eqb (value (get_or xs n d)) n && placed value d xs n

-- what a number names has that number as its value, and the number is a place of the table
pub named : {X : Type 0} (value : X → ℕ) (d : X) (xs : List X) → placed value d xs (length xs) ≡ true → (n : ℕ) (x : X) → slice_get xs n ≡ Some x → (value x ≡ n) × (n < length xs)
named {X} value d xs right n x e = let l = slice_get_within xs n x e in (ap value (sym (get_or_from_slice_get xs n x d e)) ∙ rule l, l)
  where
    rule : n < length xs → value (get_or xs n d) ≡ n
    rule = (Decides-below_and (λ k. eqb (value (get_or xs k d)) k) (λ k. value (get_or xs k d) ≡ k) (placed value d xs) (λ k. Decides-eqb (value (get_or xs k d)) k) refl (λ _. refl) (length xs)).0 right n
