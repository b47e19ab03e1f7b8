-- The last part of a line stands up to its end. It need not say by itself where it ends.
use Rattle.std.proofs.Common.{◌≡◌, ℕ, ◌+◌, ◌<◌, ◌≤◌, Bool, true, false, cond, eqb, List, [], ◌∷◌, ◌++◌, length, take, drop, Ok, Err, Result, sym, refl, ap, ◌∙◌, subst, ⊎_elim, append_assoc, append-nil, add-zero, add_assoc, zero-add, arith, length-append, length-drop}
use Rattle.std.proofs.lemmas.List.{append_cancel_left, take-append-drop, drop_all}
use Rattle.std.proofs.lemmas.Bool.{cond-true, cond-false, eq-eqb, ne_eqb, eqb-true, eqb-false}
use Rattle.text.specs.Legal.{LineOf, IllegalAt, Tells}
use Rattle.text.specs.Parts.{Reading, and_then, ended}
use Rattle.text.proofs.Fronts.{either_front, take_past}
use Rattle.text.proofs.Sound.{Apart, Stops, Takes, Found, Sound}

-- what is left of the line is the text of no good value, and q is the first byte that goes on with none, or the length
pub record Breaks {A : Type 0} (Good : A → Type 0) (write : A → List ℕ) (left : List ℕ) (q : ℕ) : Type 0 where
  pub within : q ≤ length left
  pub start : (a : A) × (more : List ℕ) × Good a × (write a ≡ take q left ++ more)
  pub stray : q < length left → (a : A) (more : List ℕ) → Good a → write a ≡ take (q + 1) left ++ more → ⊥
  pub illegal : (a : A) → Good a → left ≡ write a → ⊥

-- what is left of the line, from this place on, is the text of a value, or p is the illegal byte
abbrev pub Ends : {A : Type 0} → (A → Type 0) → (A → List ℕ) → List ℕ → ℕ → Result A ℕ → Type 0
Ends Good write left at (Ok a) = Good a × (left ≡ write a)
Ends Good write left at (Err p) = (q : ℕ) × (p ≡ at + q) × Breaks Good write left q

-- the part is read as it is written, where it is the last of the line
pub record Last {A : Type 0} (Good : A → Type 0) (write : A → List ℕ) (read : List ℕ → ℕ → Reading A) : Type 0 where
  pub once : (a b : A) → Good a → Good b → write a ≡ write b → a ≡ b
  pub found : (line : List ℕ) (at : ℕ) → at ≤ length line → Ends Good write (drop at line) at (ended line (read line at))

-- the same reading in other words
pub last_read : {A : Type 0} {Good : A → Type 0} {write : A → List ℕ} {read : List ℕ → ℕ → Reading A} (other : List ℕ → ℕ → Reading A) → ((line : List ℕ) (at : ℕ) → read line at ≡ other line at) → Last Good write read → Last Good write other
last_read {A} {Good} {write} {read} other same l = record {
  once = l.once;
  found = λ line at h. subst (λ (r : Reading A). Ends Good write (drop at line) at (ended line r)) (same line at) (l.found line at h);
}

-- a part is the whole line just if it ends where the line does

pub ended_whole : {A : Type 0} (a : A) (line : List ℕ) (n : ℕ) → n ≡ length line → ended line (Ok (a, n)) ≡ Ok a
ended_whole a line n e = cond-true (eqb n (length line)) (Ok a) (Err n) (eq-eqb n (length line) e)

pub ended_early : {A : Type 0} (a : A) (line : List ℕ) (n : ℕ) → (n ≡ length line → ⊥) → ended line (Ok (a, n)) ≡ Err n
ended_early a line n e = cond-false (eqb n (length line)) (Ok a) (Err n) (ne_eqb n (length line) e)

abbrev pub mapped : {A B : Type 0} → (A → B) → Result A ℕ → Result B ℕ
mapped f (Ok a) = Ok (f a)
mapped f (Err p) = Err p

abbrev pub made : {A B : Type 0} → (A → B) → Reading A → Reading B
made f r = and_then r (λ a n. Ok (f a, n))

pub ended_made : {A B : Type 0} (f : A → B) (line : List ℕ) (r : Reading A) → ended line (made f r) ≡ mapped f (ended line r)
ended_made f line (Err p) = refl
ended_made f line (Ok p) = here (eqb p.1 (length line))
  where
    here : (b : Bool) → cond b (Ok (f p.0)) (Err p.1) ≡ mapped f (cond b (Ok p.0) (Err p.1))
    here true = refl
    here false = refl

-- values of another type, one for each
module _ {A B : Type 0} {Good : A → Type 0} {write : A → List ℕ} (Other : B → Type 0) (text : B → List ℕ) (f : A → B) where
  pub last_map : {read : List ℕ → ℕ → Reading A} → ((a : A) → Good a → Other (f a)) → ((a : A) → Good a → text (f a) ≡ write a) → ((b : B) → Other b → (a : A) × Good a × (b ≡ f a)) → Last Good write read → Last Other text (λ line at. made f (read line at))
  last_map {read} to same from l = record {
    once = λ b d gb gd e.
        let x = from b gb in
        let y = from d gd in
        x.2 ∙ ap f (l.once x.0 y.0 x.1 y.1 (wrote b gb ∙ e ∙ sym (wrote d gd))) ∙ sym y.2;
    found = λ line at h. subst (Ends Other text (drop at line) at) (sym (ended_made f line (read line at))) (turned (drop at line) at (ended line (read line at)) (l.found line at h));
  }
    where
      wrote : (b : B) (g : Other b) → write (from b g).0 ≡ text b
      wrote b g = let x = from b g in sym (same x.0 x.1) ∙ ap text (sym x.2)

      turned : (left : List ℕ) (at : ℕ) (r : Result A ℕ) → Ends Good write left at r → Ends Other text left at (mapped f r)
      turned left at (Ok a) e = (to a e.0, e.1 ∙ sym (same a e.0))
      turned left at (Err p) e = (
        e.0,
        e.1,
        record {
          within = e.2.within;
          start = let z = e.2.start in (f z.0, z.1, to z.0 z.2, same z.0 z.2 ∙ z.3);
          stray = λ h b more g i. e.2.stray h (from b g).0 more (from b g).1 (wrote b g ∙ i);
          illegal = λ b g i. e.2.illegal (from b g).0 (from b g).1 (i ∙ sym (wrote b g));
        },
      )

-- A part that says where it ends, and then the last one. The values c of the whole are made of those of the two parts.
module _ {A B C : Type 0} (First : A → Type 0) (write : A → List ℕ) (Second : A → B → Type 0) (tail : A → B → List ℕ) (Good : C → Type 0) (text : C → List ℕ) (make : A → B → C) where
  pub record Made (c : C) : Type 0 where
    pub a : A
    pub b : B
    pub first : First a
    pub second : Second a b
    pub is : c ≡ make a b

  -- a value is good if and only if it is made of good parts, and it is written as they are, one behind the other
  pub record Composed : Type 0 where
    pub good : (a : A) (b : B) → First a → Second a b → Good (make a b)
    pub wrote : (a : A) (b : B) → First a → Second a b → text (make a b) ≡ write a ++ tail a b
    pub parts : (c : C) → Good c → Made c
    pub fill : (a : A) → First a → (b : B) × Second a b

  whole : Composed → (c : C) (g : Good c) (m : Made c) → text c ≡ write m.a ++ tail m.a m.b
  whole k c g m = ap text m.is ∙ k.wrote m.a m.b m.first m.second

  -- where the first part stops, the whole breaks
  first_breaks : Composed → (left : List ℕ) (q : ℕ) → Stops First write left q → Breaks Good text left q
  first_breaks k left q s = record {
    within = s.within;
    start =
        let z = s.start in
        let b = k.fill z.0 z.2 in
        (make z.0 b.0, z.1 ++ tail z.0 b.0, k.good z.0 b.0 z.2 b.1, k.wrote z.0 b.0 z.2 b.1 ∙ ap (λ (x : List ℕ). x ++ tail z.0 b.0) z.3 ∙ append_assoc (take q left) z.1 (tail z.0 b.0));
    stray = λ h c more g e. stray h (k.parts c g) more (sym (whole k c g (k.parts c g)) ∙ e);
    illegal = λ c g e. let m = k.parts c g in s.none m.a (tail m.a m.b) m.first (e ∙ whole k c g m);
  }
    where
      longer : (a : A) (m : List ℕ) → take (q + 1) left ≡ write a ++ m → left ≡ write a ++ (m ++ drop (q + 1) left)
      longer a m e = sym (take-append-drop (q + 1) left) ∙ ap (λ (x : List ℕ). x ++ drop (q + 1) left) e ∙ append_assoc (write a) m (drop (q + 1) left)

      stray : {c : C} → q < length left → (m : Made c) (more : List ℕ) → write m.a ++ tail m.a m.b ≡ take (q + 1) left ++ more → ⊥
      stray h m more e =
          ⊎_elim
          (λ (p : (x : List ℕ) × (write m.a ≡ take (q + 1) left ++ x)). s.stray h m.a p.0 m.first p.1)
          (λ (p : (x : List ℕ) × (take (q + 1) left ≡ write m.a ++ x)). s.none m.a (p.0 ++ drop (q + 1) left) m.first (longer m.a p.0 p.1))
          (either_front (write m.a) (take (q + 1) left) (tail m.a m.b) more e)

  pub record Behind (a : A) (s : List ℕ) (c : C) : Type 0 where
    pub b : B
    pub second : Second a b
    pub rest : tail a b ≡ s
    pub is : c ≡ make a b

  -- the last part of a whole whose first part is a
  behind : Composed → Apart First write → (a : A) → First a → (s : List ℕ) (c : C) → Good c → text c ≡ write a ++ s → Behind a s c
  behind k apart a f s c g e =
      let m = k.parts c g in
      let here : write m.a ++ tail m.a m.b ≡ write a ++ s = sym (whole k c g m) ∙ e in
      let same : m.a ≡ a = apart m.a a (tail m.a m.b) s m.first f here in
      let moved = subst (λ (x : A). Second x m.b × (write x ++ tail x m.b ≡ write a ++ s) × (c ≡ make x m.b)) same (m.second, here, m.is) in
      record { b = m.b; second = moved.0; rest = append_cancel_left (write a) (tail a m.b) s moved.1; is = moved.2 }

  -- where the last part breaks, the whole breaks
  next_breaks : Composed → Apart First write → (a : A) → First a → (left : List ℕ) (q : ℕ) → Breaks (Second a) (tail a) left q → Breaks Good text (write a ++ left) (length (write a) + q)
  next_breaks k apart a f left q s = record {
    within = omega (arith, length-append (write a) left, s.within);
    start =
        let z = s.start in
        (make a z.0, z.1, k.good a z.0 f z.2, k.wrote a z.0 f z.2 ∙ ap (λ (x : List ℕ). write a ++ x) z.3 ∙ sym (append_assoc (write a) (take q left) z.1) ∙ ap (λ (x : List ℕ). x ++ z.1) (sym (take_past (write a) left q)));
    stray = λ h c more g e.
        let b = behind k apart a f (take (q + 1) left ++ more) c g (e ∙ ap (λ (x : List ℕ). x ++ more) (ap (λ (n : ℕ). take n (write a ++ left)) (add_assoc (length (write a)) q 1) ∙ take_past (write a) left (q + 1)) ∙ append_assoc (write a) (take (q + 1) left) more) in
        s.stray (omega (arith, length-append (write a) left, h)) b.b more b.second b.rest;
    illegal = λ c g e.
        let b = behind k apart a f left c g (sym e) in
        s.illegal b.b b.second (sym b.rest);
  }

  pub last_then : {read : List ℕ → ℕ → Reading A} {follow : A → List ℕ → ℕ → Reading B} → Composed → Sound First write read → ((a : A) → First a → Last (Second a) (tail a) (follow a)) → Last Good text (λ line at. and_then (read line at) (λ a n. made (make a) (follow a line n)))
  last_then {read} {follow} k first rest = record {
    once = λ c d gc gd e.
        let m = k.parts d gd in
        let b = behind k first.apart m.a m.first (tail m.a m.b) c gc (e ∙ whole k d gd m) in
        b.is ∙ ap (make m.a) ((rest m.a m.first).once b.b m.b b.second m.second b.rest) ∙ sym m.is;
    found = λ line at h. found line at h (read line at) (first.found line at);
  }
    where
      after : (line : List ℕ) (at : ℕ) (a : A) (n : ℕ) → Takes First write line at a n → (r : Result B ℕ) → Ends (Second a) (tail a) (drop n line) n r → Ends Good text (drop at line) at (mapped (make a) r)
      after line at a n t (Ok b) e = (k.good a b t.good e.0, t.split ∙ ap (λ (x : List ℕ). write a ++ x) e.1 ∙ sym (k.wrote a b t.good e.0))
      after line at a n t (Err p) e = (length (write a) + e.0, e.1 ∙ ap (λ (m : ℕ). m + e.0) t.next ∙ add_assoc at (length (write a)) e.0, subst (λ (x : List ℕ). Breaks Good text x (length (write a) + e.0)) (sym t.split) (next_breaks k first.apart a t.good (drop n line) e.0 e.2))

      in_line : (line : List ℕ) (at : ℕ) (a : A) (n : ℕ) → at ≤ length line → Takes First write line at a n → n ≤ length line
      in_line line at a n h t = omega (arith, t.next, sym (length-drop at line) ∙ ap length t.split ∙ length-append (write a) (drop n line))

      found : (line : List ℕ) (at : ℕ) → at ≤ length line → (r : Reading A) → Found First write line at r → Ends Good text (drop at line) at (ended line (and_then r (λ a n. made (make a) (follow a line n))))
      found line at h (Ok p) f = subst (Ends Good text (drop at line) at) (sym (ended_made (make p.0) line (follow p.0 line p.1))) (after line at p.0 p.1 f (ended line (follow p.0 line p.1)) ((rest p.0 f.good).found line p.1 (in_line line at p.0 p.1 h f)))
      found line at h (Err p) f = (f.q, f.place, first_breaks k (drop at line) f.q f.stops)

-- nothing is left
abbrev Nothing : Unit {0} → Type 0
Nothing u = Unit {0}

pub last_none : Last Nothing (λ _. []) (λ line at. Ok (tt, at))
last_none = record {
  once = λ a b ga gb e. refl;
  found = λ line at h. here line at h (eqb at (length line)) refl;
}
  where
    here : (line : List ℕ) (at : ℕ) → at ≤ length line → (b : Bool) → eqb at (length line) ≡ b → Ends Nothing (λ _. []) (drop at line) at (cond b (Ok tt) (Err at))
    here line at h true e = (tt, drop_all at line (omega (arith, eqb-true at (length line) e)))
    here line at h false e = (
      0,
      sym (add-zero at),
      record {
        within = omega arith;
        start = (tt, [], tt, refl);
        stray = λ l a more g i. omega (arith, ap length i ∙ length-append (take (0 + 1) (drop at line)) more, size (drop at line) l);
        illegal = λ a g i. eqb-false at (length line) e (omega (arith, sym (length-drop at line) ∙ ap length i));
      },
    )
      where
        size : (xs : List ℕ) → 0 < length xs → 0 < length (take (0 + 1) xs)
        size [] l = omega arith
        size (x ∷ xs) l = omega arith

made_same : {A : Type 0} (r : Reading A) → made (λ a. a) r ≡ r
made_same (Ok p) = refl
made_same (Err p) = refl

-- a part that says where it ends may be the last
pub sound_last : {A : Type 0} {Good : A → Type 0} {write : A → List ℕ} {read : List ℕ → ℕ → Reading A} → Sound Good write read → Last Good write read
sound_last {A} {Good} {write} {read} s = last_read read (λ line at. made_same (read line at)) (last_then Good write (λ a u. Unit {0}) (λ a u. []) Good write (λ a u. a) composed s (λ a g. last_none))
  where
    composed : Composed Good write (λ a u. Unit {0}) (λ a u. []) Good write (λ a (u : Unit {0}). a)
    composed = record {
      good = λ a u g h. g;
      wrote = λ a u g h. sym (append-nil (write a));
      parts = λ c g. record { a = c; b = tt; first = g; second = tt; is = refl };
      fill = λ a g. (tt, tt);
    }

-- the whole line

module _ {A : Type 0} {Good : A → Type 0} {write : A → List ℕ} {read : List ℕ → ℕ → Reading A} (l : Last Good write read) where
  -- what a line reads as says of it
  pub last_tells : (line : List ℕ) → Tells Good write line (ended line (read line 0))
  last_tells line = tells (ended line (read line 0)) (l.found line 0 (omega arith))
    where
      tells : (r : Result A ℕ) → Ends Good write line 0 r → Tells Good write line r
      tells (Ok a) e = (e.0, sym e.1)
      tells (Err p) e = subst (IllegalAt (LineOf Good write) line) (sym (e.1 ∙ zero-add e.0)) (record {
        within = e.2.within;
        start = let z = e.2.start in (z.1, (z.0, z.2, z.3));
        stray = λ h s. e.2.stray h s.1.0 s.0 s.1.1 s.1.2;
        illegal = λ s. e.2.illegal s.0 s.1 (sym s.2);
      })

  -- what is written reads back
  pub last_reads_back : (a : A) → Good a → ended (write a) (read (write a) 0) ≡ Ok a
  last_reads_back a g = back (ended (write a) (read (write a) 0)) (last_tells (write a))
    where
      back : (r : Result A ℕ) → Tells Good write (write a) r → r ≡ Ok a
      back (Ok b) t = ap Ok (l.once b a t.0 g t.1)
      back (Err p) t = absurd (t.illegal (a, g, refl))
