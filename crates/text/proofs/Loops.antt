-- How the loops of the readers go on.
use Rattle.std.proofs.Common.{◌≡◌, ℕ, suc, ◌+◌, ◌-◌, ◌*◌, ◌<◌, ◌≤◌, max, Bool, true, false, cond, eqb, List, [], ◌∷◌, length, get_or, slice_get, drop, Some, None, Ok, Err, Option, Result, sym, refl, ap, ◌∙◌, ⊎_elim, arith}
use Rattle.std.specs.List.{take_while, zip}
use Rattle.std.proofs.lemmas.List.{take_rest, drop_more, drop_all, at_drop_all}
use Rattle.std.proofs.lemmas.List.Sums.{take_while-cons}
use Rattle.std.proofs.lemmas.Bool.{eq-eqb, ne_eqb, cases_lt}
use Rattle.std.proofs.lemmas.Option.{slice_get-get_or, slice_get_past}
use Rattle.text.proofs.Fronts.{alike_left}
use Rattle.text.specs.Parts.{alike, begins, picked, reach, picked_or, picked_or_reach, picked_at, word_at, opened_by, pushed_by, digits_up, decimal_from, decimal_at}

-- what stands at a place and what is left there: a byte with those behind it, or nothing
pub at_get : (P : Option ℕ → List ℕ → Type 0) (line : List ℕ) (at : ℕ) → ((c : ℕ) → at < length line → P (Some c) (c ∷ drop (at + 1) line)) → P None [] → P (slice_get line at) (drop at line)
at_get P line at some none =
    ⊎_elim
    (λ (l : at < length line). rw (slice_get-get_or line at 0 l, drop_more line at 0 l) (some (get_or line at 0) l))
    (λ (l : length line ≤ at). rw (slice_get_past line at l, drop_all at line l) none)
    (cases_lt at (length line))

-- number

-- where a test decides on a number, it decides on what is made of the number
module _ {B : Type 0} (make : ℕ → B) (other : B) where
  chose_some : (b : Bool) (m n : ℕ) → Some m ≡ cond b (Some n) None → cond b (make n) other ≡ make m
  chose_some true m n e = let i : n ≡ m = cc in ap make i
  chose_some false m n e = cc

  chose_none : (b : Bool) (n : ℕ) → None ≡ cond b (Some n) None → cond b (make n) other ≡ other
  chose_none true n e = cc
  chose_none false n e = refl

module _ (limit : ℕ) (line : List ℕ) (at : ℕ) where
  abbrev further : ℕ → ℕ × ℕ
  further n = digits_up limit n (drop (at + 1) line) (at + 1)

  pub decimal_opens : (m : ℕ) → Some m ≡ opened_by limit (slice_get line at) → (at < length line) × (decimal_at limit line at ≡ Ok (further m))
  decimal_opens m = at_get (λ o xs. Some m ≡ opened_by limit o → (at < length line) × (decimal_from limit xs at ≡ Ok (further m))) line at (λ c l e. (l, chose_some (λ n. Ok (further n)) (Err at) _ m (c - 48) e)) (λ e. cc)

  pub decimal_stray : None ≡ opened_by limit (slice_get line at) → decimal_at limit line at ≡ Err at
  decimal_stray = at_get (λ o xs. None ≡ opened_by limit o → decimal_from limit xs at ≡ Err at) line at (λ c l e. chose_none (λ n. Ok (further n)) (Err at) _ (c - 48) e) (λ e. refl)

  pub digits_more : (v m : ℕ) → Some m ≡ pushed_by limit v (slice_get line at) → (at < length line) × (digits_up limit v (drop at line) at ≡ further m)
  digits_more v m = at_get (λ o xs. Some m ≡ pushed_by limit v o → (at < length line) × (digits_up limit v xs at ≡ further m)) line at (λ c l e. (l, chose_some further (v, at) _ m (v * 10 + (c - 48)) e)) (λ e. cc)

  pub digits_end : (v : ℕ) → None ≡ pushed_by limit v (slice_get line at) → digits_up limit v (drop at line) at ≡ (v, at)
  digits_end v = at_get (λ o xs. None ≡ pushed_by limit v o → digits_up limit v xs at ≡ (v, at)) line at (λ c l e. chose_none further (v, at) _ (v * 10 + (c - 48)) e) (λ e. refl)

pub ruleset decimal_steps = (decimal_opens, decimal_stray, digits_more, digits_end)

-- the count of a chain that goes on while the bytes are equal
alike_counted : (xs ys : List ℕ) → length (take_while (λ p. eqb p.0 p.1) (zip xs ys)) ≡ alike xs ys
alike_counted [] ys = refl
alike_counted (x ∷ xs) [] = refl
alike_counted (x ∷ xs) (y ∷ ys) = ap length (take_while-cons (λ p. eqb p.0 p.1) (x, y) (zip xs ys)) ∙ ways (alike_counted xs ys) (eqb x y)
  where
    ways : length (take_while (λ p. eqb p.0 p.1) (zip xs ys)) ≡ alike xs ys → (b : Bool) → length (cond b ((x, y) ∷ take_while (λ p. eqb p.0 p.1) (zip xs ys)) []) ≡ cond b (suc (alike xs ys)) 0
    ways e true = ap suc e
    ways e false = refl

-- word: what is left of the table decides, with the bytes that the words before reached

unfoldable pub chooses : {A : Type 0} → (A → List ℕ) → ℕ → List A → List ℕ → Result A ℕ
chooses word far all text = picked_or (max far (reach word all text)) (picked word all text)

module _ {A : Type 0} (word : A → List ℕ) (far : ℕ) (all : List A) (text : List ℕ) where
  pub chooses_all : far ≡ 0 → chooses word far all text ≡ picked_or_reach word all text
  unfolding chooses
  chooses_all e = ap (λ (n : ℕ). picked_or n (picked word all text)) (omega arith)

  pub chooses_none : (i : ℕ) → length all ≤ i → chooses word far (drop i all) text ≡ Err far
  unfolding chooses
  chooses_none i h = at_drop_all (λ (xs : List A). chooses word far xs text) all i h ∙ ap (λ (n : ℕ). Err n) (omega arith)

  -- the value at a place, its word, and how many bytes of it the text begins with
  module _ (i : ℕ) (a : A) (w : List ℕ) (n : ℕ) (h : i < length all) (is : get_or all i a ≡ a) (same : w ≡ word a) (count : n ≡ length (take_while (λ p. eqb p.0 p.1) (zip text w))) where
    counted : n ≡ alike text (word a)
    counted = count ∙ alike_counted text w ∙ ap (alike text) same

    step : (b : Bool) → begins text (word a) ≡ b → chooses word far (drop i all) text ≡ picked_or (max far (max n (reach word (drop (i + 1) all) text))) (cond b (Some a) (picked word (drop (i + 1) all) text))
    unfolding chooses
    step b e = rw (drop_more all i a h, is, e, sym counted) refl

    pub chooses_this : n ≡ length w → chooses word far (drop i all) text ≡ Ok a
    chooses_this e = step true (eq-eqb (alike text (word a)) (length (word a)) (sym counted ∙ e ∙ ap length same))

    pub chooses_later : (n ≡ length w → ⊥) → chooses word (max far n) (drop (i + 1) all) text ≡ chooses word far (drop i all) text
    unfolding chooses
    chooses_later e = ap (λ (m : ℕ). picked_or m (picked word (drop (i + 1) all) text)) (omega arith) ∙ sym (step false (ne_eqb (alike text (word a)) (length (word a)) (λ q. e (counted ∙ q ∙ ap length (sym same)))))

    pub far_enough : far ≤ length text → max far n ≤ length text
    far_enough l = omega (arith, counted, alike_left text (word a))

-- the word that was picked from what is left of the line, or how far the words reach there
module _ {A : Type 0} (word : A → List ℕ) (all : List A) (line : List ℕ) (at : ℕ) where
  pub word_picked : (a : A) → Ok a ≡ picked_or_reach word all (drop at line) → word_at word all line at ≡ Ok (a, at + length (word a))
  unfolding word_at
  word_picked a = here (picked word all (drop at line))
    where
      here : (o : Option A) → Ok a ≡ picked_or (reach word all (drop at line)) o → picked_at word at (reach word all (drop at line)) o ≡ Ok (a, at + length (word a))
      here (Some b) is = let i : a ≡ b = cc in cc
      here None is = cc

  pub word_missed : (far : ℕ) → Err far ≡ picked_or_reach word all (drop at line) → word_at word all line at ≡ Err (at + far)
  unfolding word_at
  word_missed far = here (picked word all (drop at line))
    where
      here : (o : Option A) → Err far ≡ picked_or (reach word all (drop at line)) o → picked_at word at (reach word all (drop at line)) o ≡ Err (at + far)
      here (Some b) is = cc
      here None is = cc

pub ruleset word_steps = (word_picked, word_missed, take_rest)

pub ruleset pick_steps = (chooses_all, chooses_none)
