-- A part that is one word of a table.
use Rattle.std.proofs.Common.{◌≡◌, ℕ, ◌+◌, ◌<◌, ◌≤◌, Bool, true, false, cond, ◌&&◌, ltb, ◌⊎◌, List, [], ◌∷◌, ◌++◌, length, drop, Some, None, Option, sym, refl, ap, ◌∙◌, inl, inr, ⊎_elim, arith}
use Rattle.std.proofs.lemmas.List.{take_all, drop-drop, take-append-drop}
use Rattle.std.proofs.lemmas.Bool.{and_parts, ltb-true, eqb-true, eqb-false, cases_lt}
use Rattle.text.specs.Parts.{alike, begins, picked, reach, picked_at, word_at}
use Rattle.text.proofs.Fronts.{either_front, alike_left, alike_front, alike_far, alike_begins, begins_alike}
use Rattle.text.proofs.Sound.{Apart, Stops, Found, Sound}

-- a value of the table
abbrev pub Among : {A : Type 0} → A → List A → Type 0
Among a [] = ⊥
Among a (x ∷ xs) = (a ≡ x) ⊎ Among a xs

-- neither text begins with the other
abbrev pub clear : List ℕ → List ℕ → Bool
clear xs ys = ltb (alike xs ys) (length xs) && ltb (alike xs ys) (length ys)

abbrev pub clear_of_all : {A : Type 0} → (A → List ℕ) → A → List A → Bool
clear_of_all word a [] = true
clear_of_all word a (b ∷ bs) = clear (word a) (word b) && clear_of_all word a bs

-- no word of the table begins with another
abbrev pub prefix_free : {A : Type 0} → (A → List ℕ) → List A → Bool
prefix_free word [] = true
prefix_free word (a ∷ others) = clear_of_all word a others && prefix_free word others

clear_not : (xs ys s t : List ℕ) → clear xs ys ≡ true → xs ++ s ≡ ys ++ t → ⊥
clear_not xs ys s t h e =
    let p = and_parts (ltb (alike xs ys) (length xs)) (ltb (alike xs ys) (length ys)) h in
    let l : alike xs ys < length xs = ltb-true (alike xs ys) (length xs) p.0 in
    let r : alike xs ys < length ys = ltb-true (alike xs ys) (length ys) p.1 in
    ⊎_elim
    (λ (m : (m : List ℕ) × (xs ≡ ys ++ m)). omega (arith, alike_begins xs ys m.0 m.1, r))
    (λ (m : (m : List ℕ) × (ys ≡ xs ++ m)). omega (arith, alike_far (length xs) xs ys m.0 (omega arith) (m.1 ∙ ap (λ (x : List ℕ). x ++ m.0) (sym (take_all (length xs) xs (omega arith)))), l))
    (either_front xs ys s t e)

module _ {A : Type 0} (word : A → List ℕ) where
  clear_among : (a b : A) (bs : List A) (s t : List ℕ) → clear_of_all word a bs ≡ true → Among b bs → word a ++ s ≡ word b ++ t → ⊥
  clear_among a b [] s t h m e = m
  clear_among a b (x ∷ xs) s t h m e =
      let p = and_parts (clear (word a) (word x)) (clear_of_all word a xs) h in
      ⊎_elim
      (λ (i : b ≡ x). clear_not (word a) (word x) s t p.0 (e ∙ ap (λ (y : A). word y ++ t) i))
      (λ (i : Among b xs). clear_among a b xs s t p.1 i e)
      m

  words_apart : (all : List A) → prefix_free word all ≡ true → Apart (λ a. Among a all) word
  words_apart [] h a b s t ga gb e = absurd ga
  words_apart (x ∷ xs) h a b s t ga gb e =
      let p = and_parts (clear_of_all word x xs) (prefix_free word xs) h in
      ⊎_elim
      (λ (i : a ≡ x). ⊎_elim
      (λ (j : b ≡ x). i ∙ sym j)
      (λ (j : Among b xs). absurd (clear_among x b xs s t p.0 j (ap (λ (y : A). word y ++ s) (sym i) ∙ e)))
      gb)
      (λ (i : Among a xs). ⊎_elim
      (λ (j : b ≡ x). absurd (clear_among x a xs t s p.0 i (ap (λ (y : A). word y ++ t) (sym j) ∙ sym e)))
      (λ (j : Among b xs). words_apart xs p.1 a b s t i j e)
      gb)
      ga

  picked_some : (all : List A) (text : List ℕ) (a : A) → picked word all text ≡ Some a → Among a all × (alike text (word a) ≡ length (word a))
  picked_some [] text a e = cc
  picked_some (x ∷ xs) text a e = here (picked_some xs text a) (begins text (word x)) refl e
    where
      here : (picked word xs text ≡ Some a → Among a xs × (alike text (word a) ≡ length (word a))) → (b : Bool) → begins text (word x) ≡ b → cond b (Some x) (picked word xs text) ≡ Some a → Among a (x ∷ xs) × (alike text (word a) ≡ length (word a))
      here rest true t e =
          let i : x ≡ a = cc in
          (inl (sym i), ap (λ (y : A). alike text (word y)) (sym i) ∙ eqb-true (alike text (word x)) (length (word x)) t ∙ ap (λ (y : A). length (word y)) i)
      here rest false t e = let p = rest e in (inr p.0, p.1)

  picked_none : (all : List A) (text : List ℕ) (a : A) → picked word all text ≡ None → Among a all → alike text (word a) ≡ length (word a) → ⊥
  picked_none [] text a e m s = m
  picked_none (x ∷ xs) text a e m s = here (λ n i. picked_none xs text a n i s) (begins text (word x)) refl e
    where
      here : (picked word xs text ≡ None → Among a xs → ⊥) → (b : Bool) → begins text (word x) ≡ b → cond b (Some x) (picked word xs text) ≡ None → ⊥
      here rest true t e = cc
      here rest false t e =
          ⊎_elim
          (λ (i : a ≡ x). eqb-false (alike text (word x)) (length (word x)) t (ap (λ (y : A). alike text (word y)) (sym i) ∙ s ∙ ap (λ (y : A). length (word y)) i))
          (λ (i : Among a xs). rest e i)
          m

  reach_over : (all : List A) (text : List ℕ) (a : A) → Among a all → alike text (word a) ≤ reach word all text
  reach_over [] text a m = absurd m
  reach_over (x ∷ xs) text a m =
      ⊎_elim
      (λ (i : a ≡ x). omega (arith, ap (λ (y : A). alike text (word y)) i))
      (λ (i : Among a xs). omega (arith, reach_over xs text a i))
      m

  reach_by : (all : List A) (text : List ℕ) → 0 < length all → (a : A) × Among a all × (reach word all text ≤ alike text (word a))
  reach_by [] text h = absurd (omega arith)
  reach_by (x ∷ []) text h = (x, inl refl, omega arith)
  reach_by (x ∷ (y ∷ ys)) text h =
      ⊎_elim
      (λ (l : alike text (word x) < reach word (y ∷ ys) text). let z = reach_by (y ∷ ys) text (omega arith) in (z.0, inr z.1, omega (arith, z.2, l)))
      (λ (l : reach word (y ∷ ys) text ≤ alike text (word x)). (x, inl refl, omega (arith, l)))
      (cases_lt (alike text (word x)) (reach word (y ∷ ys) text))

  words_stop : (all : List A) (text : List ℕ) → 0 < length all → picked word all text ≡ None → Stops (λ a. Among a all) word text (reach word all text)
  words_stop all text some e =
      let far = reach word all text in
      record {
        within = let z = reach_by all text some in omega (arith, z.2, alike_left text (word z.0));
        start = let z = reach_by all text some in (z.0, drop far (word z.0), z.1, sym (take-append-drop far (word z.0)) ∙ ap (λ (x : List ℕ). x ++ drop far (word z.0)) (sym (alike_front far text (word z.0) z.2)));
        stray = λ h a more g w. omega (arith, reach_over all text a g, alike_far (far + 1) text (word a) more (omega arith) w);
        none = λ a more g w. picked_none all text a e g (alike_begins text (word a) more w);
      }

  -- a word of a table of which no word begins with another is read as it is written
  pub words_sound : (all : List A) → prefix_free word all ≡ true → 0 < length all → Sound (λ a. Among a all) word (word_at word all)
  unfolding word_at
  words_sound all free some = record {
    apart = words_apart all free;
    found = λ line at. found line at (picked word all (drop at line)) refl;
  }
    where
      found : (line : List ℕ) (at : ℕ) (o : Option A) → picked word all (drop at line) ≡ o → Found (λ a. Among a all) word line at (picked_at word at (reach word all (drop at line)) o)
      found line at (Some a) e =
          let p = picked_some all (drop at line) a e in
          record {
            good = p.0;
            next = refl;
            split = begins_alike (drop at line) (word a) p.1 ∙ ap (λ (x : List ℕ). word a ++ x) (drop-drop (length (word a)) at line);
          }
      found line at None e = record { q = reach word all (drop at line); place = refl; stops = words_stop all (drop at line) some e }
