-- The first bytes of a line are kept.
use Rattle.std.proofs.Common.{◌≡◌, ℕ, ◌<◌, ◌≤◌, List, [], ◌∷◌, ◌++◌, length, take, sym, ◌∙◌, arith, ⊎_elim, length-append}
use lib.Seq.{take-append-le}
use Rattle.std.proofs.lemmas.List.{take_all}
use Rattle.std.proofs.lemmas.Bool.{cases_lt}

-- a byte is kept where there is room for it, and thrown away where there is none
pub keeps : (xs ys : List ℕ) (n b : ℕ) → length xs ≤ n → (length xs < n → ys ≡ xs ++ b ∷ []) → (n ≤ length xs → ys ≡ xs) → ys ≡ take n (xs ++ b ∷ [])
keeps xs ys n b within room full =
    ⊎_elim
    (λ (l : length xs < n). room l ∙ sym (take_all n (xs ++ b ∷ []) (simp length-append (omega (arith, l)))))
    (λ (l : n ≤ length xs). full l ∙ sym (take-append-le n xs (b ∷ []) l ∙ take_all n xs within))
    (cases_lt (length xs) n)
