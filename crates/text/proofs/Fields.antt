-- A part that is just one byte, and one that is a comma and one word of a table.
use Rattle.std.proofs.Common.{◌≡◌, ℕ, ◌+◌, max, Bool, true, false, cond, eqb, List, [], ◌∷◌, drop, Some, None, Ok, Err, refl, ap, inl, add-zero, arith}
use Rattle.text.specs.Parts.{this_in, this_at, reach, picked, picked_at, word_at, field_at}
use Rattle.text.proofs.Loops.{at_get}
use Rattle.text.proofs.Sound.{Sound, Having, sound_good, sound_read, sound_then}
use Rattle.text.proofs.Tables.{Among, prefix_free, words_sound}

-- every value is good
abbrev pub All : {A : Type 0} → A → Type 0
All a = Unit {0}

-- a word whose table has every value
pub word_sound : {A : Type 0} (word : A → List ℕ) (a : A) (others : List A) → prefix_free word (a ∷ others) ≡ true → ((x : A) → Among x (a ∷ others)) → Sound All word (word_at word (a ∷ others))
word_sound word a others free every = sound_good All (λ x h. tt) (λ x h. every x) (words_sound word (a ∷ others) free (omega arith))

-- just one byte
pub this_sound : (b : ℕ) → Sound All (λ _. b ∷ []) (this_at b)
unfolding word_at
this_sound b = sound_read (this_at b) same (word_sound (λ _. b ∷ []) tt [] refl (λ u. inl refl))
  where
    alone : Unit {0} → List ℕ
    alone u = b ∷ []

    same : (line : List ℕ) (at : ℕ) → word_at alone (tt ∷ []) line at ≡ this_at b line at
    same line at = at_get (λ o xs. picked_at alone at (reach alone (tt ∷ []) xs) (picked alone (tt ∷ []) xs) ≡ this_in b o at) line at (λ c l. here c (drop (at + 1) line)) (ap Err (add-zero at))
      where
        ways : (k : Bool) → picked_at alone at (max (cond k 1 0) 0) (cond (eqb (cond k 1 0) 1) (Some (tt {0})) None) ≡ cond k (Ok (tt {0}, at + 1)) (Err at)
        ways true = refl
        ways false = ap Err (add-zero at)

        here : (c : ℕ) (xs : List ℕ) → picked_at alone at (reach alone (tt ∷ []) (c ∷ xs)) (picked alone (tt ∷ []) (c ∷ xs)) ≡ this_in b (Some c) at
        here c [] = ways (eqb c b)
        here c (x ∷ xs) = ways (eqb c b)

-- a field whose words are those of a table
pub fields_sound : {A : Type 0} (word : A → List ℕ) (a : A) (others : List A) → prefix_free word (a ∷ others) ≡ true → Sound (λ x. Among x (a ∷ others)) (λ x. 44 ∷ word x) (field_at word (a ∷ others))
unfolding field_at
fields_sound {A} word a others free = sound_then All (λ _. 44 ∷ []) (λ x. Among x (a ∷ others)) word (λ x. tt) (this_sound 44) (λ x g. tt) (λ u g. (a, (inl refl, refl))) (λ u g. sound_good (Having (λ x. Among x (a ∷ others)) (λ x. tt) u) (λ x h. (h, refl)) (λ x h. h.0) (words_sound word (a ∷ others) free (omega arith)))

-- a field whose table has every value
pub field_sound : {A : Type 0} (word : A → List ℕ) (a : A) (others : List A) → prefix_free word (a ∷ others) ≡ true → ((x : A) → Among x (a ∷ others)) → Sound All (λ x. 44 ∷ word x) (field_at word (a ∷ others))
field_sound word a others free every = sound_good All (λ x h. tt) (λ x h. every x) (fields_sound word a others free)
