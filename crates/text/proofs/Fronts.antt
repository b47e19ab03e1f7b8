-- Texts that begin alike.
use Rattle.std.proofs.Common.{◌≡◌, ℕ, zero, suc, ◌+◌, ◌≤◌, eqb, ◌⊎◌, List, [], ◌∷◌, ◌++◌, length, take, drop, sym, refl, ap, ◌∙◌, inl, inr, ⊎_elim, suc-add, zero-add, arith}
use Rattle.std.proofs.lemmas.Bool.{cond_both, cond-true, cond-false, eq-eqb, cases_eq, ne_eqb}
use Rattle.text.specs.Parts.{alike}

pub heads : {A : Type 0} {x y : A} {xs ys : List A} → x ∷ xs ≡ y ∷ ys → (x ≡ y) × (xs ≡ ys)
heads e = (cc, cc)

pub nil_cons : {A : Type 0} {x : A} {xs : List A} → [] ≡ x ∷ xs → ⊥
nil_cons {A} {x} {xs} e = let z : ◌≡◌ {A = ℕ} 0 1 = cc in omega arith

-- of two fronts of one text, one begins the other
pub either_front : (xs ys us vs : List ℕ) → xs ++ us ≡ ys ++ vs → ((m : List ℕ) × (xs ≡ ys ++ m)) ⊎ ((m : List ℕ) × (ys ≡ xs ++ m))
either_front [] ys us vs e = inr (ys, refl)
either_front (x ∷ xs) [] us vs e = inl (x ∷ xs, refl)
either_front (x ∷ xs) (y ∷ ys) us vs e =
    let h = heads e in
    ⊎_elim
    (λ (p : (m : List ℕ) × (xs ≡ ys ++ m)). inl (p.0, more p))
    (λ (p : (m : List ℕ) × (ys ≡ xs ++ m)). inr (p.0, less p))
    (either_front xs ys us vs h.1)
  where
    more : (p : (m : List ℕ) × (xs ≡ ys ++ m)) → x ∷ xs ≡ (y ∷ ys) ++ p.0
    more p = let a = (heads e).0 in let b = p.1 in cc

    less : (p : (m : List ℕ) × (ys ≡ xs ++ m)) → y ∷ ys ≡ (x ∷ xs) ++ p.0
    less p = let a = (heads e).0 in let b = p.1 in cc

pub alike_left : (xs ys : List ℕ) → alike xs ys ≤ length xs
alike_left [] ys = omega arith
alike_left (x ∷ xs) [] = omega arith
alike_left (x ∷ xs) (y ∷ ys) = let h = alike_left xs ys in cond_both (eqb x y) (suc (alike xs ys)) 0 (λ n. n ≤ suc (length xs)) (λ e. omega arith) (λ e. omega arith)

-- as far as two texts begin alike they are equal
pub alike_front : (k : ℕ) (xs ys : List ℕ) → k ≤ alike xs ys → take k xs ≡ take k ys
alike_front zero xs ys h = refl
alike_front (suc k) [] ys h = absurd (omega arith)
alike_front (suc k) (x ∷ xs) [] h = absurd (omega arith)
alike_front (suc k) (x ∷ xs) (y ∷ ys) h =
    ⊎_elim
    (λ (e : x ≡ y). let a : take k xs ≡ take k ys = alike_front k xs ys (same e) in cc)
    (λ (n : x ≡ y → ⊥). absurd (other n))
    (cases_eq x y)
  where
    same : x ≡ y → k ≤ alike xs ys
    same e = omega (arith, cond-true (eqb x y) (suc (alike xs ys)) 0 (eq-eqb x y e))

    other : (x ≡ y → ⊥) → ⊥
    other n = omega (arith, cond-false (eqb x y) (suc (alike xs ys)) 0 (ne_eqb x y n))

-- and where they are equal they begin alike
pub alike_far : (k : ℕ) (xs ys more : List ℕ) → k ≤ length xs → ys ≡ take k xs ++ more → k ≤ alike xs ys
alike_far zero xs ys more h e = omega arith
alike_far (suc k) [] ys more h e = absurd (omega arith)
alike_far (suc k) (x ∷ xs) [] more h e = absurd (nil_cons e)
alike_far (suc k) (x ∷ xs) (y ∷ ys) more h e =
    let p = heads e in
    let a : k ≤ alike xs ys = alike_far k xs ys more (omega arith) p.1 in
    omega (arith, cond-true (eqb x y) (suc (alike xs ys)) 0 (eq-eqb x y (sym p.0)))

pub alike_begins : (xs ys more : List ℕ) → xs ≡ ys ++ more → alike xs ys ≡ length ys
alike_begins [] [] more e = refl
alike_begins [] (y ∷ ys) more e = absurd (nil_cons e)
alike_begins (x ∷ xs) [] more e = refl
alike_begins (x ∷ xs) (y ∷ ys) more e =
    let p = heads e in
    cond-true (eqb x y) (suc (alike xs ys)) 0 (eq-eqb x y p.0) ∙ ap suc (alike_begins xs ys more p.1)

pub begins_alike : (xs ys : List ℕ) → alike xs ys ≡ length ys → xs ≡ ys ++ drop (length ys) xs
begins_alike [] [] e = refl
begins_alike [] (y ∷ ys) e = absurd (omega arith)
begins_alike (x ∷ xs) [] e = refl
begins_alike (x ∷ xs) (y ∷ ys) e =
    ⊎_elim
    (λ (s : x ≡ y). let a : xs ≡ ys ++ drop (length ys) xs = begins_alike xs ys (same s) in cc)
    (λ (n : x ≡ y → ⊥). absurd (other n))
    (cases_eq x y)
  where
    same : x ≡ y → alike xs ys ≡ length ys
    same s = omega (arith, cond-true (eqb x y) (suc (alike xs ys)) 0 (eq-eqb x y s))

    other : (x ≡ y → ⊥) → ⊥
    other n = omega (arith, cond-false (eqb x y) (suc (alike xs ys)) 0 (ne_eqb x y n))

pub take_past : (xs ys : List ℕ) (n : ℕ) → take (length xs + n) (xs ++ ys) ≡ xs ++ take n ys
take_past [] ys n = ap (λ (m : ℕ). take m ys) (zero-add n)
take_past (x ∷ xs) ys n = ap (λ (m : ℕ). take m (x ∷ (xs ++ ys))) (suc-add (length xs) n) ∙ ap (λ (l : List ℕ). x ∷ l) (take_past xs ys n)
