-- What it means that a part of a line is read as it is written, and that parts in a row are then read so too.
use Rattle.std.proofs.Common.{◌≡◌, ℕ, ◌+◌, ◌<◌, ◌≤◌, List, [], ◌++◌, length, take, drop, Ok, Err, sym, refl, ap, ◌∙◌, subst, ⊎_elim, append_assoc, append-nil, add-zero, add_assoc, arith, length-append}
use Rattle.std.proofs.lemmas.List.{append_cancel_left, take-append-drop}
use Rattle.text.specs.Parts.{Reading, and_then}
use Rattle.text.proofs.Fronts.{either_front, take_past}

-- A part has values of the type A. Some of them are good, and each is written as a text.

-- no text of a part begins with another
abbrev pub Apart : {A : Type 0} → (A → Type 0) → (A → List ℕ) → Type 0
Apart {A} Good write = (a b : A) (s t : List ℕ) → Good a → Good b → write a ++ s ≡ write b ++ t → a ≡ b

-- what is left of the line begins with no text of the part, and q is the first byte that goes on with none
pub record Stops {A : Type 0} (Good : A → Type 0) (write : A → List ℕ) (left : List ℕ) (q : ℕ) : Type 0 where
  pub within : q ≤ length left
  pub start : (a : A) × (more : List ℕ) × Good a × (write a ≡ take q left ++ more)
  pub stray : q < length left → (a : A) (more : List ℕ) → Good a → write a ≡ take (q + 1) left ++ more → ⊥
  pub none : (a : A) (more : List ℕ) → Good a → left ≡ write a ++ more → ⊥

-- the line has at this place the text of a, and n is the place behind it
pub record Takes {A : Type 0} (Good : A → Type 0) (write : A → List ℕ) (line : List ℕ) (at : ℕ) (a : A) (n : ℕ) : Type 0 where
  pub good : Good a
  pub next : n ≡ at + length (write a)
  pub split : drop at line ≡ write a ++ drop n line

-- the line has at this place no text of the part, and p is the illegal byte
pub record Refuses {A : Type 0} (Good : A → Type 0) (write : A → List ℕ) (line : List ℕ) (at p : ℕ) : Type 0 where
  pub q : ℕ
  pub place : p ≡ at + q
  pub stops : Stops Good write (drop at line) q

abbrev pub Found : {A : Type 0} → (A → Type 0) → (A → List ℕ) → List ℕ → ℕ → Reading A → Type 0
Found Good write line at (Ok p) = Takes Good write line at p.0 p.1
Found Good write line at (Err p) = Refuses Good write line at p

-- the part is read as it is written, wherever it stands
pub record Sound {A : Type 0} (Good : A → Type 0) (write : A → List ℕ) (read : List ℕ → ℕ → Reading A) : Type 0 where
  pub apart : Apart Good write
  pub found : (line : List ℕ) (at : ℕ) → Found Good write line at (read line at)

-- the text of a good value in other words
pub sound_same : {A : Type 0} {Good : A → Type 0} {write : A → List ℕ} {read : List ℕ → ℕ → Reading A} (other : A → List ℕ) → ((a : A) → Good a → write a ≡ other a) → Sound Good write read → Sound Good other read
sound_same {A} {Good} {write} {read} other same s = record {
  apart = λ a b u v ga gb e. s.apart a b u v ga gb (ap (λ (x : List ℕ). x ++ u) (same a ga) ∙ e ∙ ap (λ (x : List ℕ). x ++ v) (sym (same b gb)));
  found = λ line at. turned line at (read line at) (s.found line at);
}
  where
    turned : (line : List ℕ) (at : ℕ) (r : Reading A) → Found Good write line at r → Found Good other line at r
    turned line at (Ok p) f = record {
      good = f.good;
      next = f.next ∙ ap (λ (x : List ℕ). at + length x) (same p.0 f.good);
      split = f.split ∙ ap (λ (x : List ℕ). x ++ drop p.1 line) (same p.0 f.good);
    }
    turned line at (Err p) f = record {
      q = f.q;
      place = f.place;
      stops = record {
        within = f.stops.within;
        start = let z = f.stops.start in (z.0, z.1, z.2, sym (same z.0 z.2) ∙ z.3);
        stray = λ h a more g e. f.stops.stray h a more g (same a g ∙ e);
        none = λ a more g e. f.stops.none a more g (e ∙ ap (λ (x : List ℕ). x ++ more) (sym (same a g)));
      };
    }

-- the good values in other words
pub sound_good : {A : Type 0} {Good : A → Type 0} {write : A → List ℕ} {read : List ℕ → ℕ → Reading A} (Other : A → Type 0) → ((a : A) → Good a → Other a) → ((a : A) → Other a → Good a) → Sound Good write read → Sound Other write read
sound_good {A} {Good} {write} {read} Other to from s = record {
  apart = λ a b u v ga gb e. s.apart a b u v (from a ga) (from b gb) e;
  found = λ line at. turned line at (read line at) (s.found line at);
}
  where
    turned : (line : List ℕ) (at : ℕ) (r : Reading A) → Found Good write line at r → Found Other write line at r
    turned line at (Ok p) f = record { good = to p.0 f.good; next = f.next; split = f.split }
    turned line at (Err p) f = record {
      q = f.q;
      place = f.place;
      stops = record {
        within = f.stops.within;
        start = let z = f.stops.start in (z.0, z.1, to z.0 z.2, z.3);
        stray = λ h a more g e. f.stops.stray h a more (from a g) e;
        none = λ a more g e. f.stops.none a more (from a g) e;
      };
    }

-- the same reading in other words
pub sound_read : {A : Type 0} {Good : A → Type 0} {write : A → List ℕ} {read : List ℕ → ℕ → Reading A} (other : List ℕ → ℕ → Reading A) → ((line : List ℕ) (at : ℕ) → read line at ≡ other line at) → Sound Good write read → Sound Good write other
sound_read {A} {Good} {write} {read} other same s = record {
  apart = s.apart;
  found = λ line at. subst (λ (r : Reading A). Found Good write line at r) (same line at) (s.found line at);
}

-- nothing is left to read, and the value is known
pub sound_done : {A : Type 0} {Good : A → Type 0} (a : A) → Good a → ((b : A) → Good b → b ≡ a) → Sound Good (λ _. []) (λ line at. Ok (a, at))
sound_done {A} {Good} a g one = record {
  apart = λ b d s t gb gd e. one b gb ∙ sym (one d gd);
  found = λ line at. record { good = g; next = sym (add-zero at); split = refl };
}

-- the good values of the whole that have the value a of a part
abbrev pub Having : {A C : Type 0} → (C → Type 0) → (C → A) → A → C → Type 0
Having Good get a c = Good c × (get c ≡ a)

-- A part and then others. The value c is of the whole, and `get c` is that of the first part; what follows is read for the value that was found.
module _ {A C : Type 0} (First : A → Type 0) (write : A → List ℕ) (Good : C → Type 0) (tail : C → List ℕ) (get : C → A) where
  abbrev pub in_row : C → List ℕ
  in_row c = write (get c) ++ tail c

  -- where the first part stops, the whole stops
  first_stops : ((c : C) → Good c → First (get c)) → ((a : A) → First a → (c : C) × Having Good get a c) → (left : List ℕ) (q : ℕ) → Stops First write left q → Stops Good in_row left q
  first_stops good fill left q s = record {
    within = s.within;
    start =
        let z = s.start in
        let c = fill z.0 z.2 in
        (c.0, z.1 ++ tail c.0, c.1.0, ap (λ (a : A). write a ++ tail c.0) c.1.1 ∙ ap (λ (x : List ℕ). x ++ tail c.0) z.3 ∙ append_assoc (take q left) z.1 (tail c.0));
    stray = λ h c more g e.
        ⊎_elim
        (λ (p : (m : List ℕ) × (write (get c) ≡ take (q + 1) left ++ m)). s.stray h (get c) p.0 (good c g) p.1)
        (λ (p : (m : List ℕ) × (take (q + 1) left ≡ write (get c) ++ m)). s.none (get c) (p.0 ++ drop (q + 1) left) (good c g) (longer c p.0 p.1))
        (either_front (write (get c)) (take (q + 1) left) (tail c) more e);
    none = λ c more g e. s.none (get c) (tail c ++ more) (good c g) (e ∙ append_assoc (write (get c)) (tail c) more);
  }
    where
      longer : (c : C) (m : List ℕ) → take (q + 1) left ≡ write (get c) ++ m → left ≡ write (get c) ++ (m ++ drop (q + 1) left)
      longer c m e = sym (take-append-drop (q + 1) left) ∙ ap (λ (x : List ℕ). x ++ drop (q + 1) left) e ∙ append_assoc (write (get c)) m (drop (q + 1) left)

  -- the rest of a whole that goes on behind the text of a
  behind : Apart First write → ((c : C) → Good c → First (get c)) → (a : A) → First a → (c : C) → Good c → (s t : List ℕ) → in_row c ++ s ≡ write a ++ t → (get c ≡ a) × (tail c ++ s ≡ t)
  behind apart good a f c g s t e =
      let here : write (get c) ++ (tail c ++ s) ≡ write a ++ t = sym (append_assoc (write (get c)) (tail c) s) ∙ e in
      let same : get c ≡ a = apart (get c) a (tail c ++ s) t (good c g) f here in
      (same, append_cancel_left (write a) (tail c ++ s) t (ap (λ (x : A). write x ++ (tail c ++ s)) (sym same) ∙ here))

  -- where the first part is found and the next stops, the whole stops
  next_stops : Apart First write → ((c : C) → Good c → First (get c)) → (a : A) → First a → (left : List ℕ) (q : ℕ) → Stops (Having Good get a) tail left q → Stops Good in_row (write a ++ left) (length (write a) + q)
  next_stops apart good a f left q s = record {
    within = omega (arith, length-append (write a) left, s.within);
    start =
        let z = s.start in
        (z.0, z.1, z.2.0, ap (λ (x : A). write x ++ tail z.0) z.2.1 ∙ ap (λ (x : List ℕ). write a ++ x) z.3 ∙ sym (append_assoc (write a) (take q left) z.1) ∙ ap (λ (x : List ℕ). x ++ z.1) (sym (cut q)));
    stray = λ h c more g e.
        let b = behind apart good a f c g [] (take (q + 1) left ++ more) (append-nil (in_row c) ∙ e ∙ ap (λ (x : List ℕ). x ++ more) (ap (λ (n : ℕ). take n (write a ++ left)) (add_assoc (length (write a)) q 1) ∙ cut (q + 1)) ∙ append_assoc (write a) (take (q + 1) left) more) in
        s.stray (omega (arith, length-append (write a) left, h)) c more (g, b.0) (sym (append-nil (tail c)) ∙ b.1);
    none = λ c more g e.
        let b = behind apart good a f c g more left (sym e) in
        s.none c more (g, b.0) (sym b.1);
  }
    where
      cut : (n : ℕ) → take (length (write a) + n) (write a ++ left) ≡ write a ++ take n left
      cut n = take_past (write a) left n

  pub sound_then : {read : List ℕ → ℕ → Reading A} {follow : A → List ℕ → ℕ → Reading C} → Sound First write read → ((c : C) → Good c → First (get c)) → ((a : A) → First a → (c : C) × Having Good get a c) → ((a : A) → First a → Sound (Having Good get a) tail (follow a)) → Sound Good in_row (λ line at. and_then (read line at) (λ a n. follow a line n))
  sound_then {read} {follow} first good fill rest = record {
    apart = λ c d s t gc gd e.
        let b = behind first.apart good (get d) (good d gd) c gc s (tail d ++ t) (e ∙ append_assoc (write (get d)) (tail d) t) in
        (rest (get d) (good d gd)).apart c d s t (gc, b.0) (gd, refl) b.1;
    found = λ line at. found line at (read line at) (first.found line at);
  }
    where
      after : (line : List ℕ) (at : ℕ) (a : A) (n : ℕ) → Takes First write line at a n → (r : Reading C) → Found (Having Good get a) tail line n r → Found Good in_row line at r
      after line at a n t (Ok p) f = record {
        good = f.good.0;
        next = f.next ∙ ap (λ (m : ℕ). m + length (tail p.0)) t.next ∙ add_assoc at (length (write a)) (length (tail p.0)) ∙ ap (λ (m : ℕ). at + m) (sym (length-append (write a) (tail p.0))) ∙ ap (λ (x : A). at + length (write x ++ tail p.0)) (sym f.good.1);
        split = t.split ∙ ap (λ (x : List ℕ). write a ++ x) f.split ∙ sym (append_assoc (write a) (tail p.0) (drop p.1 line)) ∙ ap (λ (x : A). (write x ++ tail p.0) ++ drop p.1 line) (sym f.good.1);
      }
      after line at a n t (Err p) f = record {
        q = length (write a) + f.q;
        place = f.place ∙ ap (λ (m : ℕ). m + f.q) t.next ∙ add_assoc at (length (write a)) f.q;
        stops = subst (λ (x : List ℕ). Stops Good in_row x (length (write a) + f.q)) (sym t.split) (next_stops first.apart good a t.good (drop n line) f.q f.stops);
      }

      found : (line : List ℕ) (at : ℕ) (r : Reading A) → Found First write line at r → Found Good in_row line at (and_then r (λ a n. follow a line n))
      found line at (Ok p) f = after line at p.0 p.1 f (follow p.0 line p.1) ((rest p.0 f.good).found line p.1)
      found line at (Err p) f = record { q = f.q; place = f.place; stops = first_stops good fill (drop at line) f.q f.stops }
