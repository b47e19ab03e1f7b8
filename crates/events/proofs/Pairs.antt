-- The bytes of a telegram are read as they are written.
use Rattle.std.proofs.Common.{◌≡◌, ℕ, zero, suc, ◌+◌, ◌*◌, ◌/◌, ◌%◌, ◌<◌, ◌≤◌, List, [], ◌∷◌, ◌++◌, length, take, drop, Some, None, Ok, Err, Option, Result, sym, refl, ap, ◌∙◌, add-zero, arith, length-drop}
use Rattle.std.proofs.lemmas.Bool.Decides.{nat_tests}
use Rattle.text.specs.Hexes.{hex_digit, hex_text}
use Rattle.text.specs.Pairs.{in_front, pair_then, pairs_from, pairs_at}
use Rattle.text.specs.Parts.{Reading, ended, hex_value}
use Rattle.text.proofs.Last.{Ends, Last, mapped, ended_made, ended_whole}
use Rattle.events.specs.Said.{Below}

-- at most so many bytes
abbrev pub Pairs : ℕ → List ℕ → Type 0
Pairs most bs = (length bs ≤ most) × Below 256 bs

-- each byte has its own two digits

hex_once : (m n : ℕ) → m < 16 → n < 16 → hex_digit m ≡ hex_digit n → m ≡ n
hex_once m n hm hn e = grind (arith, nat_tests)

byte_once : (b d : ℕ) → b < 256 → d < 256 → hex_digit (b / 16) ≡ hex_digit (d / 16) → hex_digit (b % 16) ≡ hex_digit (d % 16) → b ≡ d
byte_once b d hb hd e f = grind (arith, hex_once)

pairs_once : (bs ds : List ℕ) → Below 256 bs → Below 256 ds → hex_text bs ≡ hex_text ds → bs ≡ ds
pairs_once [] [] gb gd e = refl
pairs_once [] (d ∷ ds) gb gd e = cc
pairs_once (b ∷ bs) [] gb gd e = cc
pairs_once (b ∷ bs) (d ∷ ds) gb gd e =
    let s : b ≡ d = byte_once b d gb.0 gd.0 (cc) (cc) in
    let r : bs ≡ ds = pairs_once bs ds gb.1 gd.1 (cc) in
    cc

-- what no pairs begin with

no_room : (h : ℕ) (more bs : List ℕ) → Pairs 0 bs → hex_text bs ≡ h ∷ more → ⊥
no_room h more [] g e = cc
no_room h more (b ∷ bs) g e = omega arith

no_high : (most h : ℕ) (more bs : List ℕ) → hex_value h ≡ None → Pairs most bs → hex_text bs ≡ h ∷ more → ⊥
no_high most h more [] n g e = cc
no_high most h more (b ∷ bs) n g e = let f : hex_digit (b / 16) ≡ h = cc in grind (arith, nat_tests)

no_low : (most h l : ℕ) (more bs : List ℕ) → hex_value l ≡ None → Pairs most bs → hex_text bs ≡ h ∷ (l ∷ more) → ⊥
no_low most h l more [] n g e = cc
no_low most h l more (b ∷ bs) n g e = let f : hex_digit (b % 16) ≡ l = cc in grind (arith, nat_tests)

no_half : (most h : ℕ) (bs : List ℕ) → Pairs most bs → hex_text bs ≡ h ∷ [] → ⊥
no_half most h [] g e = cc
no_half most h (b ∷ bs) g e = cc

-- a byte with these digits
byte_text : (h l a b : ℕ) → hex_value h ≡ Some a → hex_value l ≡ Some b → (16 * a + b < 256) × (hex_digit ((16 * a + b) / 16) ≡ h) × (hex_digit ((16 * a + b) % 16) ≡ l)
byte_text h l a b eh el = grind (arith, nat_tests)

-- the first digit of a pair may always go on
half : (most h a : ℕ) → hex_value h ≡ Some a → (bs : List ℕ) × (more : List ℕ) × Pairs (suc most) bs × (hex_text bs ≡ (h ∷ []) ++ more)
half most h a e =
    let t = byte_text h 48 a 0 e refl in
    ((16 * a + 0) ∷ [], 48 ∷ [], (omega arith, (t.0, tt)), cc)

ended_front : (b : ℕ) (line : List ℕ) (r : Reading (List ℕ)) → ended line (in_front b r) ≡ mapped (λ bs. b ∷ bs) (ended line r)
ended_front b line (Err p) = refl
ended_front b line (Ok p) = ended_made (λ bs. b ∷ bs) line (Ok p)

module _ (line : List ℕ) where
  stops_first : (most at h : ℕ) (cs : List ℕ) → ((more bs : List ℕ) → Pairs most bs → hex_text bs ≡ h ∷ more → ⊥) → Ends (Pairs most) hex_text (h ∷ cs) at (Err at)
  stops_first most at h cs never = (
    0,
    sym (add-zero at),
    record {
      within = omega arith;
      start = ([], [], (omega arith, tt), refl);
      stray = λ l bs more g e. never more bs g e;
      illegal = λ bs g e. never cs bs g (sym e);
    },
  )

  stops_second : (most at h a : ℕ) (cs : List ℕ) → hex_value h ≡ Some a → ((x : ℕ) (xs : List ℕ) → cs ≡ x ∷ xs → hex_value x ≡ None) → Ends (Pairs (suc most)) hex_text (h ∷ cs) at (Err (at + 1))
  stops_second most at h a [] e n = (
    1,
    refl,
    record {
      within = omega arith;
      start = half most h a e;
      stray = λ l bs more g i. omega arith;
      illegal = λ bs g i. no_half (suc most) h bs g (sym i);
    },
  )
  stops_second most at h a (x ∷ xs) e n = (
    1,
    refl,
    record {
      within = omega arith;
      start = half most h a e;
      stray = λ l bs more g i. no_low (suc most) h x more bs (n x xs refl) g i;
      illegal = λ bs g i. no_low (suc most) h x xs bs (n x xs refl) g (sym i);
    },
  )

  next_pair : (most at h l a b : ℕ) (cs : List ℕ) → hex_value h ≡ Some a → hex_value l ≡ Some b → (r : Result (List ℕ) ℕ) → Ends (Pairs most) hex_text cs (at + 2) r → Ends (Pairs (suc most)) hex_text (h ∷ (l ∷ cs)) at (mapped (λ bs. (16 * a + b) ∷ bs) r)
  next_pair most at h l a b cs eh el (Ok bs) e =
      let t = byte_text h l a b eh el in
      ((omega (arith, e.0.0), (t.0, e.0.1)), cc)
  next_pair most at h l a b cs eh el (Err p) e = (
    suc (suc e.0),
    omega (arith, e.1),
    record {
      within = omega (arith, e.2.within);
      start =
          let t = byte_text h l a b eh el in
          let z = e.2.start in
          ((16 * a + b) ∷ z.0, z.1, (omega (arith, z.2.0), (t.0, z.2.1)), cc (z.3));
      stray = λ u bs more g i. stray u bs more g (i ∙ ap (λ (n : ℕ). take n (h ∷ (l ∷ cs)) ++ more) two);
      illegal = illegal;
    },
  )
    where
      two : suc (suc e.0) + 1 ≡ suc (suc (e.0 + 1))
      two = omega arith

      stray : suc (suc e.0) < length (h ∷ (l ∷ cs)) → (bs more : List ℕ) → Pairs (suc most) bs → hex_text bs ≡ h ∷ (l ∷ (take (e.0 + 1) cs ++ more)) → ⊥
      stray u [] more g i = cc
      stray u (x ∷ bs) more g i = e.2.stray (omega (arith, u)) bs more (omega (arith, g.0), g.1.1) (cc)

      illegal : (bs : List ℕ) → Pairs (suc most) bs → h ∷ (l ∷ cs) ≡ hex_text bs → ⊥
      illegal [] g i = cc
      illegal (x ∷ bs) g i = e.2.illegal bs (omega (arith, g.0), g.1.1) (cc)

  none_left : (most at : ℕ) → length line ≡ at + 0 → Ends (Pairs most) hex_text [] at (ended line (Ok ([], at)))
  none_left most at size = rw (ended_whole {A = List ℕ} [] line at (omega arith)) ((omega arith, tt), refl)

  pairs_end : (most : ℕ) (left : List ℕ) (at : ℕ) → length line ≡ at + length left → Ends (Pairs most) hex_text left at (ended line (pairs_from most left at))
  pairs_end zero [] at size = none_left zero at size
  pairs_end zero (h ∷ cs) at size = stops_first zero at h cs (λ more bs g e. no_room h more bs g e)
  pairs_end (suc most) [] at size = none_left (suc most) at size
  pairs_end (suc most) (h ∷ []) at size = first (hex_value h) refl
    where
      first : (o : Option ℕ) → hex_value h ≡ o → Ends (Pairs (suc most)) hex_text (h ∷ []) at (ended line (pair_then o None at (Err at)))
      first None e = stops_first (suc most) at h [] (λ more bs g i. no_high (suc most) h more bs e g i)
      first (Some a) e = stops_second most at h a [] e (λ x xs i. cc)
  pairs_end (suc most) (h ∷ (l ∷ cs)) at size = first (pairs_end most cs (at + 2) (omega (arith, size))) (hex_value h) refl
    where
      second : Ends (Pairs most) hex_text cs (at + 2) (ended line (pairs_from most cs (at + 2))) → (a : ℕ) → hex_value h ≡ Some a → (o : Option ℕ) → hex_value l ≡ o → Ends (Pairs (suc most)) hex_text (h ∷ (l ∷ cs)) at (ended line (pair_then (Some a) o at (pairs_from most cs (at + 2))))
      second next a eh None e = stops_second most at h a (l ∷ cs) eh (λ x xs i. cc)
      second next a eh (Some b) e = rw (ended_front (16 * a + b) line (pairs_from most cs (at + 2))) (next_pair most at h l a b cs eh e (ended line (pairs_from most cs (at + 2))) next)

      first : Ends (Pairs most) hex_text cs (at + 2) (ended line (pairs_from most cs (at + 2))) → (o : Option ℕ) → hex_value h ≡ o → Ends (Pairs (suc most)) hex_text (h ∷ (l ∷ cs)) at (ended line (pair_then o (hex_value l) at (pairs_from most cs (at + 2))))
      first next None e = stops_first (suc most) at h (l ∷ cs) (λ more bs g i. no_high (suc most) h more bs e g i)
      first next (Some a) e = second next a e (hex_value l) refl

pub pairs_last : (most : ℕ) → Last (Pairs most) hex_text (pairs_at most)
unfolding pairs_at
pairs_last most = record {
  once = λ bs ds gb gd e. pairs_once bs ds gb.1 gd.1 e;
  found = λ line at h. pairs_end line most (drop at line) at (omega (arith, length-drop at line, h));
}
