-- A part that is a decimal number with its comma.
use Rattle.std.proofs.Common.{◌≡◌, ℕ, ◌+◌, ◌-◌, ◌*◌, ◌^◌, ◌<◌, ◌≤◌, Bool, true, false, cond, ◌&&◌, eqb, ltb, leb, List, [], ◌∷◌, ◌++◌, length, take, drop, Ok, Err, decimal, sym, refl, ap, ◌∙◌, subst, ⊎_elim, append_assoc, add-zero, arith, length-append}
use Rattle.std.proofs.lemmas.Fmt.{decimal_digit}
use Rattle.std.proofs.lemmas.List.{take_at, drop_at, drop-drop}
use Rattle.std.proofs.lemmas.Bool.{and_parts, and_from, leb-true, le-leb, ltb-true, lt-ltb, eqb-true, eqb-false, both_ways}
use Rattle.text.specs.Parts.{Reading, and_then, this_in, this_at, digit, goes_on, digits_up, decimal_from, number_at}
use Rattle.text.proofs.Fronts.{heads, nil_cons, take_past}
use Rattle.text.proofs.Loops.{at_get}
use Rattle.text.proofs.Sound.{Apart, Stops, Found, Sound}
use Rattle.text.proofs.Decimals.{with_comma, up_to, digit_is, digit_range, up_to_ge, up_to_decimal, decimal_push, Further, behind_number}

module _ (limit : ℕ) (small : limit < 2 ^ 64) where
  abbrev Within : ℕ → Type 0
  Within n = n ≤ limit

  numbers_apart : Apart Within with_comma
  numbers_apart a b s t ga gb e =
      let ha : a < 2 ^ 64 = omega arith in
      let hb : b < 2 ^ 64 = omega arith in
      let here : decimal a ++ (44 ∷ s) ≡ decimal b ++ (44 ∷ t) = sym (append_assoc (decimal a) (44 ∷ []) s) ∙ e ∙ append_assoc (decimal b) (44 ∷ []) t in
      ap (λ (p : ℕ × List ℕ). p.0) (sym (up_to_decimal a ha (44 ∷ s)) ∙ ap (up_to 0) here ∙ up_to_decimal b hb (44 ∷ t))

  -- the digits of v stand here, and what follows them is neither a comma nor a digit that goes on
  digits_stop : (v : ℕ) → v ≤ limit → (cs : List ℕ) → ((more : List ℕ) → cs ≡ 44 ∷ more → ⊥) → ((t : ℕ) → t ≤ limit → Further t v cs → ⊥) → Stops Within with_comma (decimal v ++ cs) (length (decimal v))
  digits_stop v good cs no_comma no_digit = record {
    within = omega (arith, length-append (decimal v) cs);
    start = (v, 44 ∷ [], good, ap (λ (x : List ℕ). x ++ (44 ∷ [])) (sym (take_at (decimal v) cs (length (decimal v)) refl)));
    stray = λ h t more g e. stray cs (λ x. no_comma x) no_digit h t more g e;
    none = λ t more g e. behind cs no_comma no_digit t more g (sym (append_assoc (decimal t) (44 ∷ []) more) ∙ sym e);
  }
    where
      behind : (xs : List ℕ) → ((more : List ℕ) → xs ≡ 44 ∷ more → ⊥) → ((t : ℕ) → t ≤ limit → Further t v xs → ⊥) → (t : ℕ) (more : List ℕ) → t ≤ limit → decimal t ++ (44 ∷ more) ≡ decimal v ++ xs → ⊥
      behind xs nc nd t more g e =
          ⊎_elim
          (λ (p : (t ≡ v) × (xs ≡ 44 ∷ more)). nc more p.1)
          (λ (p : Further t v xs). nd t g p)
          (behind_number t v more xs (omega arith) (omega arith) e)

      stray : (xs : List ℕ) → ((more : List ℕ) → xs ≡ 44 ∷ more → ⊥) → ((t : ℕ) → t ≤ limit → Further t v xs → ⊥) → length (decimal v) < length (decimal v ++ xs) → (t : ℕ) (more : List ℕ) → t ≤ limit → with_comma t ≡ take (length (decimal v) + 1) (decimal v ++ xs) ++ more → ⊥
      stray [] nc nd h t more g e = omega (arith, length-append (decimal v) [])
      stray (c ∷ xs) nc nd h t more g e =
          behind (c ∷ more)
          (λ m i. nc xs (ap (λ (x : ℕ). x ∷ xs) (heads i).0))
          (λ u l f. nd u l (record { d = f.d; after = xs; is = ap (λ (x : ℕ). x ∷ xs) (heads f.is).0; low = f.low; some = f.some; within = f.within }))
          t [] g (e ∙ ap (λ (x : List ℕ). x ++ more) (take_past (decimal v) (c ∷ xs) 1) ∙ append_assoc (decimal v) (c ∷ []) more)

  goes_parts : (v c : ℕ) → goes_on limit v c ≡ true → (digit c ≡ true) × (0 < v) × (v * 10 + (c - 48) ≤ limit)
  goes_parts v c h =
      let p = and_parts (digit c) (ltb 0 v && leb (v * 10 + (c - 48)) limit) h in
      let q = and_parts (ltb 0 v) (leb (v * 10 + (c - 48)) limit) p.1 in
      (p.0, ltb-true 0 v q.0, leb-true (v * 10 + (c - 48)) limit q.1)

  further_goes : (t v c : ℕ) (cs : List ℕ) → t ≤ limit → Further t v (c ∷ cs) → goes_on limit v c ≡ true
  further_goes t v c cs g f = ap (goes_on limit v) (heads f.is).0 ∙ and_from (digit (48 + f.d)) (ltb 0 v && leb (v * 10 + ((48 + f.d) - 48)) limit) (digit_is f.d f.low) (and_from (ltb 0 v) (leb (v * 10 + ((48 + f.d) - 48)) limit) (lt-ltb 0 v f.some) (le-leb (v * 10 + ((48 + f.d) - 48)) limit (omega (arith, f.within, g))))

  -- with c the digits are those of a further number
  abbrev Goes : List ℕ → ℕ → ℕ → ℕ → List ℕ → ℕ → Type 0
  Goes line at v c cs n = (drop at line ≡ decimal (v * 10 + (c - 48)) ++ cs) × (n + 1 ≡ at + length (decimal (v * 10 + (c - 48))))

  -- a number and the comma behind it
  abbrev comma_behind : List ℕ → ℕ × ℕ → Reading ℕ
  comma_behind line p = and_then (this_at 44 line p.1) (λ u m. Ok (p.0, m))

  -- the digits of v stand at this place, and no digit goes on them
  digits_end : (line : List ℕ) (at v : ℕ) → v ≤ limit → (cs : List ℕ) (n : ℕ) → drop at line ≡ decimal v ++ cs → n ≡ at + length (decimal v) → ((t : ℕ) → t ≤ limit → Further t v cs → ⊥) → Found Within with_comma line at (comma_behind line (v, n))
  digits_end line at v good cs n e i no_digit = at_get (λ o xs. xs ≡ cs → Found Within with_comma line at (and_then (this_in 44 o n) (λ u m. Ok (v, m)))) line n (λ c l q. ways c (eqb c 44) refl q) (λ q. stops (λ more y. nil_cons (q ∙ y))) left
    where
      left : drop n line ≡ cs
      left = ap (λ (m : ℕ). drop m line) i ∙ sym (drop-drop (length (decimal v)) at line) ∙ ap (drop (length (decimal v))) e ∙ drop_at (decimal v) cs (length (decimal v)) refl

      stops : ((more : List ℕ) → cs ≡ 44 ∷ more → ⊥) → Found Within with_comma line at (Err n)
      stops no_comma = record {
        q = length (decimal v);
        place = i;
        stops = subst (λ (x : List ℕ). Stops Within with_comma x (length (decimal v))) (sym e) (digits_stop v good cs no_comma no_digit);
      }

      ways : (c : ℕ) (k : Bool) → eqb c 44 ≡ k → c ∷ drop (n + 1) line ≡ cs → Found Within with_comma line at (and_then (cond k (Ok (tt {0}, n + 1)) (Err n)) (λ u m. Ok (v, m)))
      ways c true z q = record {
        good = good;
        next = omega (arith, i, length-append (decimal v) (44 ∷ []));
        split = e ∙ ap (λ (x : List ℕ). decimal v ++ x) (sym q ∙ ap (λ (x : ℕ). x ∷ drop (n + 1) line) (eqb-true c 44 z)) ∙ sym (append_assoc (decimal v) (44 ∷ []) (drop (n + 1) line));
      }
      ways c false z q = stops (λ more y. eqb-false c 44 z (heads (q ∙ y)).0)

  -- the digits of v stand at this place, and the reading goes on behind them
  digits_found : (line : List ℕ) (at v : ℕ) → v ≤ limit → (cs : List ℕ) (n : ℕ) → drop at line ≡ decimal v ++ cs → n ≡ at + length (decimal v) → Found Within with_comma line at (comma_behind line (digits_up limit v cs n))
  digits_found line at v good [] n e i = digits_end line at v good [] n e i (λ t l f. nil_cons f.is)
  digits_found line at v good (c ∷ cs) n e i = ways (λ w l. digits_found line at (v * 10 + (c - 48)) l cs (n + 1) w.0 w.1) (goes_on limit v c) refl
    where
      goes : digit c ≡ true → 0 < v → v * 10 + (c - 48) ≤ limit → Goes line at v c cs n
      goes d some l =
          let r = digit_range c d in
          let back : 48 + (c - 48) ≡ c = omega (arith, r.0) in
          let push : decimal (v * 10 + (c - 48)) ≡ decimal v ++ (c ∷ []) = decimal_push v (c - 48) some (omega (arith, r.0, r.1)) (omega arith) ∙ ap (λ (x : ℕ). decimal v ++ (x ∷ [])) back in
          (e ∙ sym (append_assoc (decimal v) (c ∷ []) cs) ∙ ap (λ (x : List ℕ). x ++ cs) (sym push), omega (arith, i, ap length push, length-append (decimal v) (c ∷ [])))

      ways : (Goes line at v c cs n → v * 10 + (c - 48) ≤ limit → Found Within with_comma line at (comma_behind line (digits_up limit (v * 10 + (c - 48)) cs (n + 1)))) → (b : Bool) → goes_on limit v c ≡ b → Found Within with_comma line at (comma_behind line (cond b (digits_up limit (v * 10 + (c - 48)) cs (n + 1)) (v, n)))
      ways on true h = let p = goes_parts v c h in on (goes p.0 p.1 p.2) p.2
      ways on false h = digits_end line at v good (c ∷ cs) n e i (λ t l f. both_ways (goes_on limit v c) h (further_goes t v c cs l f))

  -- the first byte of a number is a digit, and its value is within the number
  first_digit : (t c : ℕ) (more s : List ℕ) → t ≤ limit → decimal t ++ (44 ∷ more) ≡ c ∷ s → (digit c && leb (c - 48) limit) ≡ true
  first_digit t c more s g e = here (digit c) refl (ap (up_to 0) (sym e) ∙ up_to_decimal t (omega arith) (44 ∷ more))
    where
      zero_is : decimal 0 ≡ 48 ∷ []
      zero_is = decimal_digit 0 (omega arith)

      here : (b : Bool) → digit c ≡ b → cond b (up_to (0 * 10 + (c - 48)) s) (0, c ∷ s) ≡ (t, 44 ∷ more) → (b && leb (c - 48) limit) ≡ true
      here true h q = le-leb (c - 48) limit (omega (arith, g, up_to_ge (0 * 10 + (c - 48)) s, ap (λ (p : ℕ × List ℕ). p.0) q))
      here false h q =
          let none : 0 ≡ t = ap (λ (p : ℕ × List ℕ). p.0) q in
          let comma : c ≡ 44 = (heads (ap (λ (p : ℕ × List ℕ). p.1) q)).0 in
          absurd (omega (arith, comma, (heads (ap (λ (x : List ℕ). x ++ (44 ∷ more)) (sym zero_is ∙ ap decimal none) ∙ e)).0))

  -- no number begins so
  no_number : (left : List ℕ) → ((c : ℕ) (cs : List ℕ) → left ≡ c ∷ cs → (digit c && leb (c - 48) limit) ≡ false) → Stops Within with_comma left 0
  no_number left stops_here = record {
    within = omega arith;
    start = (0, with_comma 0, omega arith, refl);
    stray = λ h t more g e. stray left stops_here h t more g e;
    none = λ t more g e. none left stops_here t more g (sym (append_assoc (decimal t) (44 ∷ []) more) ∙ sym e);
  }
    where
      none : (xs : List ℕ) → ((c : ℕ) (cs : List ℕ) → xs ≡ c ∷ cs → (digit c && leb (c - 48) limit) ≡ false) → (t : ℕ) (more : List ℕ) → t ≤ limit → decimal t ++ (44 ∷ more) ≡ xs → ⊥
      none [] bad t more g e = omega (arith, ap length e, length-append (decimal t) (44 ∷ more))
      none (c ∷ cs) bad t more g e = both_ways (digit c && leb (c - 48) limit) (bad c cs refl) (first_digit t c more cs g e)

      stray : (xs : List ℕ) → ((c : ℕ) (cs : List ℕ) → xs ≡ c ∷ cs → (digit c && leb (c - 48) limit) ≡ false) → 0 < length xs → (t : ℕ) (more : List ℕ) → t ≤ limit → with_comma t ≡ take 1 xs ++ more → ⊥
      stray [] bad h t more g e = omega arith
      stray (c ∷ cs) bad h t more g e = both_ways (digit c && leb (c - 48) limit) (bad c cs refl) (first_digit t c [] more g e)

  number_found : (line : List ℕ) (at : ℕ) (left : List ℕ) → drop at line ≡ left → Found Within with_comma line at (and_then (decimal_from limit left at) (λ v n. comma_behind line (v, n)))
  number_found line at [] e = record { q = 0; place = sym (add-zero at); stops = no_number (drop at line) (λ c cs i. absurd (nil_cons (sym e ∙ i))) }
  number_found line at (c ∷ cs) e = ways (digit c && leb (c - 48) limit) refl
    where
      first : (48 ≤ c) × (c ≤ 57) → decimal (c - 48) ≡ c ∷ []
      first r = decimal_digit (c - 48) (omega (arith, r.0, r.1)) ∙ ap (λ (x : ℕ). x ∷ []) (back c r.0)
        where
          back : (c : ℕ) → 48 ≤ c → 48 + (c - 48) ≡ c
          back c h = omega arith

      ways : (b : Bool) → (digit c && leb (c - 48) limit) ≡ b → Found Within with_comma line at (and_then (cond b (Ok (digits_up limit (c - 48) cs (at + 1))) (Err at)) (λ v n. comma_behind line (v, n)))
      ways true h =
          let p = and_parts (digit c) (leb (c - 48) limit) h in
          let f = first (digit_range c p.0) in
          digits_found line at (c - 48) (leb-true (c - 48) limit p.1) cs (at + 1) (e ∙ ap (λ (x : List ℕ). x ++ cs) (sym f)) (ap (λ (x : List ℕ). at + length x) (sym f))
      ways false h = record { q = 0; place = sym (add-zero at); stops = no_number (drop at line) (λ d ds i. ap (λ (x : ℕ). digit x && leb (x - 48) limit) (heads (sym i ∙ e)).0 ∙ h) }

  pub numbers_sound : Sound Within with_comma (number_at limit)
  unfolding number_at
  numbers_sound = record {
    apart = numbers_apart;
    found = λ line at. number_found line at (drop at line) refl;
  }

  -- a number that was read is within the limit
  pub number_within : (line : List ℕ) (at n m : ℕ) → Ok (n, m) ≡ number_at limit line at → n ≤ limit
  number_within line at n m e = (subst (λ (r : Reading ℕ). Found Within with_comma line at r) (sym e) (numbers_sound.found line at)).good
