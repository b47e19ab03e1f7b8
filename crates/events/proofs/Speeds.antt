-- The speed is read as it is written.
use Rattle.std.proofs.Common.{◌≡◌, ℕ, zero, suc, ◌+◌, ◌-◌, ◌<◌, ◌≤◌, Bool, true, false, cond, eqb, List, [], ◌∷◌, ◌++◌, map, length, take, drop, Ok, Err, sym, refl, ap, ◌∙◌, subst, append_assoc, append-nil, add-zero, arith, length-append, length-drop}
use Rattle.std.proofs.lemmas.List.{take_at}
use Rattle.std.proofs.lemmas.Bool.{eqb-true, eqb-false, both_ways}
use Rattle.text.specs.Parts.{ended, digit}
use Rattle.text.proofs.Decimals.{digit_is, digit_range}
use Rattle.text.proofs.Fronts.{heads, take_past}
use Rattle.text.proofs.Last.{Ends, Last, ended_whole, ended_early}
use Rattle.events.specs.Reads.{digits_in, speed_from, speed_at}
use Rattle.events.specs.Said.{Below, Written, lost, digits, GoodSpeed}
use Rattle.events.specs.Texts.{speed_text}

abbrev digits_text : List ℕ → List ℕ
digits_text ds = map (λ d. 48 + d) ds

digits_length : (ds : List ℕ) → length (digits_text ds) ≡ length ds
digits_length [] = refl
digits_length (d ∷ ds) = ap suc (digits_length ds)

digits_once : (ds es : List ℕ) → digits_text ds ≡ digits_text es → ds ≡ es
digits_once [] [] e = refl
digits_once [] (f ∷ es) e = cc
digits_once (d ∷ ds) [] e = cc
digits_once (d ∷ ds) (f ∷ es) e =
    let a : d ≡ f = omega (arith, (heads e).0) in
    let b = digits_once ds es (cc) in
    cc

-- these digits, at most so many, stand in front of a text, and no digit goes on them
pub record Run (most : ℕ) (text ds : List ℕ) : Type 0 where
  pub rest : List ℕ
  pub split : text ≡ digits_text ds ++ rest
  pub few : length ds ≤ most
  pub below : Below 10 ds
  pub stops : (x : ℕ) (xs : List ℕ) → rest ≡ x ∷ xs → length ds < most → digit x ≡ false

run : (most : ℕ) (text : List ℕ) → Run most text (digits_in most text)
run zero text = record { rest = text; split = refl; few = omega arith; below = tt; stops = λ x xs e h. absurd (omega arith) }
run (suc most) [] = record { rest = []; split = refl; few = omega arith; below = tt; stops = λ x xs e h. cc }
run (suc most) (c ∷ cs) = here (digit c) refl (run most cs)
  where
    here : (b : Bool) → digit c ≡ b → Run most cs (digits_in most cs) → Run (suc most) (c ∷ cs) (cond b ((c - 48) ∷ digits_in most cs) [])
    here true e r =
        let h = digit_range c e in
        let back : c ≡ 48 + (c - 48) = omega (arith, h.0) in
        record {
          rest = r.rest;
          split = cc (back, r.split);
          few = omega (arith, r.few);
          below = (omega (arith, h.0, h.1), r.below);
          stops = λ x xs i l. r.stops x xs i (omega (arith, l));
        }
    here false e r = record { rest = c ∷ cs; split = refl; few = omega arith; below = tt; stops = λ x xs i l. cc (ap digit (heads i).0) }

-- digits behind digits
longer : (ds es : List ℕ) (x : ℕ) (more : List ℕ) → Below 10 es → digits_text es ≡ digits_text ds ++ (x ∷ more) → (digit x ≡ true) × (length ds < length es)
longer [] [] x more h e = cc
longer [] (f ∷ es) x more h e = (ap digit (sym (heads e).0) ∙ digit_is f h.0, omega arith)
longer (d ∷ ds) [] x more h e = cc
longer (d ∷ ds) (f ∷ es) x more h e = let p = longer ds es x more h.1 (cc) in (p.0, omega (arith, p.1))

-- what no speed begins with

no_empty : (v : Written) → GoodSpeed v → [] ≡ speed_text v → ⊥
no_empty lost g e = cc
no_empty (digits []) g e = omega arith
no_empty (digits (d ∷ ds)) g e = cc

no_other : (c : ℕ) (more : List ℕ) → (c ≡ 76 → ⊥) → digit c ≡ false → (v : Written) → GoodSpeed v → speed_text v ≡ c ∷ more → ⊥
no_other c more n f lost g e = n (cc)
no_other c more n f (digits []) g e = cc
no_other c more n f (digits (d ∷ ds)) g e = cc (ap digit (heads e).0, digit_is d g.2.0)

no_lost : (x : ℕ) (more : List ℕ) (v : Written) → GoodSpeed v → speed_text v ≡ 76 ∷ (x ∷ more) → ⊥
no_lost x more lost g e = cc
no_lost x more (digits []) g e = cc
no_lost x more (digits (d ∷ ds)) g e = omega (arith, (heads e).0, g.2.0)

no_more : (d : ℕ) (ds : List ℕ) (x : ℕ) (more : List ℕ) → d < 10 → (length (d ∷ ds) < 3 → digit x ≡ false) → (v : Written) → GoodSpeed v → speed_text v ≡ digits_text (d ∷ ds) ++ (x ∷ more) → ⊥
no_more d ds x more l f lost g e = omega (arith, (heads e).0, l)
no_more d ds x more l f (digits es) g e =
    let p = longer (d ∷ ds) es x more g.2 e in
    both_ways (digit x) (f (omega (arith, p.1, g.1))) p.0

once : (v w : Written) → GoodSpeed v → GoodSpeed w → speed_text v ≡ speed_text w → v ≡ w
once lost lost gv gw e = refl
once lost (digits []) gv gw e = cc
once lost (digits (d ∷ ds)) gv gw e = absurd (omega (arith, (heads e).0, gw.2.0))
once (digits []) lost gv gw e = cc
once (digits (d ∷ ds)) lost gv gw e = absurd (omega (arith, (heads e).0, gv.2.0))
once (digits ds) (digits es) gv gw e = ap digits (digits_once ds es e)

module _ (line : List ℕ) (at : ℕ) where
  -- the line stops before a speed
  empty : Ends GoodSpeed speed_text [] at (Err at)
  empty = (
    0,
    sym (add-zero at),
    record {
      within = omega arith;
      start = (lost, 76 ∷ [], tt, refl);
      stray = λ h v more g e. omega arith;
      illegal = no_empty;
    },
  )

  other : (c : ℕ) (cs : List ℕ) → (c ≡ 76 → ⊥) → digit c ≡ false → Ends GoodSpeed speed_text (c ∷ cs) at (Err at)
  other c cs n f = (
    0,
    sym (add-zero at),
    record {
      within = omega arith;
      start = (lost, 76 ∷ [], tt, refl);
      stray = λ h v more g e. no_other c more n f v g e;
      illegal = λ v g e. no_other c cs n f v g (sym e);
    },
  )

  lost_here : (cs : List ℕ) → length line ≡ at + length (76 ∷ cs) → Ends GoodSpeed speed_text (76 ∷ cs) at (ended line (Ok (lost, at + 1)))
  lost_here [] size = rw (ended_whole lost line (at + 1) (omega arith)) (tt, refl)
  lost_here (x ∷ xs) size = rw (ended_early lost line (at + 1) (λ e. omega arith)) (
    1,
    refl,
    record {
      within = omega arith;
      start = (lost, [], tt, refl);
      stray = λ h v more g e. no_lost x more v g e;
      illegal = λ v g e. no_lost x xs v g (sym e);
    },
  )

  -- digits and the end of the line, or what does not go on with them
  digits_here : (left : List ℕ) (d : ℕ) (ds rest : List ℕ) → left ≡ digits_text (d ∷ ds) ++ rest → d < 10 → Below 10 ds → length (d ∷ ds) ≤ 3 → ((x : ℕ) (xs : List ℕ) → rest ≡ x ∷ xs → length (d ∷ ds) < 3 → digit x ≡ false) → length line ≡ at + length left → Ends GoodSpeed speed_text left at (ended line (Ok (digits (d ∷ ds), at + length (d ∷ ds))))
  digits_here left d ds [] split l below few stops size = rw (ended_whole (digits (d ∷ ds)) line (at + length (d ∷ ds)) (omega (arith, size, ap length all, digits_length (d ∷ ds)))) ((omega arith, few, (l, below)), all)
    where
      all : left ≡ digits_text (d ∷ ds)
      all = split ∙ append-nil (digits_text (d ∷ ds))
  digits_here left d ds (x ∷ xs) split l below few stops size = rw (ended_early (digits (d ∷ ds)) line (at + length (d ∷ ds)) (λ e. omega (arith, e, size, sizes))) (
    length (d ∷ ds),
    refl,
    record {
      within = omega (arith, sizes);
      start = (digits (d ∷ ds), [], (omega arith, few, (l, below)), sym (append-nil (take (length (d ∷ ds)) left) ∙ ap (take (length (d ∷ ds))) split ∙ take_at (digits_text (d ∷ ds)) (x ∷ xs) (length (d ∷ ds)) (digits_length (d ∷ ds))));
      stray = λ h v more g e. no_more d ds x more l (stops x xs refl) v g (e ∙ ap (λ (y : List ℕ). y ++ more) one_more ∙ append_assoc (digits_text (d ∷ ds)) (x ∷ []) more);
      illegal = λ v g e. no_more d ds x xs l (stops x xs refl) v g (sym e ∙ split);
    },
  )
    where
      sizes : length left ≡ length (d ∷ ds) + suc (length xs)
      sizes = ap length split ∙ length-append (digits_text (d ∷ ds)) (x ∷ xs) ∙ ap (λ (n : ℕ). n + suc (length xs)) (digits_length (d ∷ ds))

      one_more : take (length (d ∷ ds) + 1) left ≡ digits_text (d ∷ ds) ++ (x ∷ [])
      one_more = ap (λ (n : ℕ). take (n + 1) left) (sym (digits_length (d ∷ ds))) ∙ ap (take (length (digits_text (d ∷ ds)) + 1)) split ∙ take_past (digits_text (d ∷ ds)) (x ∷ xs) 1

  speed_ends : (left : List ℕ) → length line ≡ at + length left → Ends GoodSpeed speed_text left at (ended line (speed_from left at))
  speed_ends [] size = empty
  speed_ends (c ∷ cs) size = letter (eqb c 76) refl
    where
      place : at + suc (length (digits_in 2 cs)) ≡ at + 1 + length (digits_in 2 cs)
      place = omega arith

      numeral : (eqb c 76 ≡ false) → (b : Bool) → digit c ≡ b → Ends GoodSpeed speed_text (c ∷ cs) at (ended line (cond b (Ok (digits ((c - 48) ∷ digits_in 2 cs), at + 1 + length (digits_in 2 cs))) (Err at)))
      numeral n true e =
          let h = digit_range c e in
          let r = run 2 cs in
          let back : c ≡ 48 + (c - 48) = omega (arith, h.0) in
          subst (λ (m : ℕ). Ends GoodSpeed speed_text (c ∷ cs) at (ended line (Ok (digits ((c - 48) ∷ digits_in 2 cs), m)))) place
          (digits_here (c ∷ cs) (c - 48) (digits_in 2 cs) r.rest (cc (back, r.split)) (omega (arith, h.0, h.1)) r.below (omega (arith, r.few)) (λ x xs i l. r.stops x xs i (omega (arith, l))) size)
      numeral n false e = other c cs (eqb-false c 76 n) e

      letter : (b : Bool) → eqb c 76 ≡ b → Ends GoodSpeed speed_text (c ∷ cs) at (ended line (cond b (Ok (lost, at + 1)) (cond (digit c) (Ok (digits ((c - 48) ∷ digits_in 2 cs), at + 1 + length (digits_in 2 cs))) (Err at))))
      letter true e = subst (λ (x : ℕ). Ends GoodSpeed speed_text (x ∷ cs) at (ended line (Ok (lost, at + 1)))) (sym (eqb-true c 76 e)) (lost_here cs size)
      letter false e = numeral e (digit c) refl

pub speed_last : Last GoodSpeed speed_text speed_at
unfolding speed_at
speed_last = record {
  once = once;
  found = λ line at h. speed_ends line at (drop at line) (omega (arith, length-drop at line, h));
}
