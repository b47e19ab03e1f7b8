-- What the bytes of a decimal number are, and what can stand behind them.
use Rattle.std.proofs.Common.{◌≡◌, ℕ, ◌+◌, ◌-◌, ◌*◌, ◌/◌, ◌%◌, ◌^◌, ◌<◌, ◌≤◌, Bool, true, false, cond, leb, ◌⊎◌, List, [], ◌∷◌, ◌++◌, get_or, decimal, sym, refl, ap, ◌∙◌, inl, inr, ⊎_elim, append_assoc, arith}
use Rattle.std.proofs.lemmas.Fmt.{decimal_digit, decimal_step, decimal_by_steps, first_decimal, decimal_nonempty}
use Rattle.std.proofs.lemmas.List.{get_or_append_left}
use Rattle.std.proofs.lemmas.Bool.{and_parts, and_from, leb-true, le-leb, cases_lt, cond-true}
use Rattle.text.specs.Parts.{digit}
use Rattle.text.proofs.Fronts.{heads, nil_cons}

-- a number and its comma
abbrev pub with_comma : ℕ → List ℕ
with_comma n = decimal n ++ (44 ∷ [])

-- the value that the digits in front lead to, and what is behind them
abbrev pub up_to : ℕ → List ℕ → ℕ × List ℕ
up_to v [] = (v, [])
up_to v (c ∷ cs) = cond (digit c) (up_to (v * 10 + (c - 48)) cs) (v, c ∷ cs)

pub digit_is : (d : ℕ) → d < 10 → digit (48 + d) ≡ true
digit_is d h = and_from (leb 48 (48 + d)) (leb (48 + d) 57) (le-leb 48 (48 + d) (omega arith)) (le-leb (48 + d) 57 (omega arith))

pub digit_range : (c : ℕ) → digit c ≡ true → (48 ≤ c) × (c ≤ 57)
digit_range c h = let p = and_parts (leb 48 c) (leb c 57) h in (leb-true 48 c p.0, leb-true c 57 p.1)

up_to_digit : (v d : ℕ) (s : List ℕ) → d < 10 → up_to v ((48 + d) ∷ s) ≡ up_to (v * 10 + d) s
up_to_digit v d s h = cond-true (digit (48 + d)) (up_to (v * 10 + ((48 + d) - 48)) s) (v, (48 + d) ∷ s) (digit_is d h) ∙ ap (λ (x : ℕ). up_to x s) (less v d)
  where
    less : (v d : ℕ) → v * 10 + ((48 + d) - 48) ≡ v * 10 + d
    less v d = omega arith

pub up_to_ge : (v : ℕ) (s : List ℕ) → v ≤ (up_to v s).0
up_to_ge v [] = omega arith
up_to_ge v (c ∷ cs) = here (up_to_ge (v * 10 + (c - 48)) cs) (digit c)
  where
    here : v * 10 + (c - 48) ≤ (up_to (v * 10 + (c - 48)) cs).0 → (b : Bool) → v ≤ (cond b (up_to (v * 10 + (c - 48)) cs) (v, c ∷ cs)).0
    here h true = omega arith
    here h false = omega arith

-- the digits of a number lead to it
pub up_to_decimal : (n : ℕ) → n < 2 ^ 64 → (s : List ℕ) → up_to 0 (decimal n ++ s) ≡ up_to n s
up_to_decimal n small = decimal_by_steps (λ m ds. (s : List ℕ) → up_to 0 (ds ++ s) ≡ up_to m s) one more n small
  where
    one : (m : ℕ) → m < 10 → (s : List ℕ) → up_to 0 ((48 + m) ∷ s) ≡ up_to m s
    one m h s = up_to_digit 0 m s h ∙ ap (λ (x : ℕ). up_to x s) (plain m)
      where
        plain : (m : ℕ) → 0 * 10 + m ≡ m
        plain m = omega arith

    more : (m : ℕ) (ds : List ℕ) → 10 ≤ m → ((s : List ℕ) → up_to 0 (ds ++ s) ≡ up_to (m / 10) s) → (s : List ℕ) → up_to 0 ((ds ++ ((48 + m % 10) ∷ [])) ++ s) ≡ up_to m s
    more m ds h before s = ap (up_to 0) (append_assoc ds ((48 + m % 10) ∷ []) s) ∙ before ((48 + m % 10) ∷ s) ∙ up_to_digit (m / 10) (m % 10) s (omega arith) ∙ ap (λ (x : ℕ). up_to x s) (whole m)
      where
        whole : (m : ℕ) → m / 10 * 10 + m % 10 ≡ m
        whole m = omega arith

-- a digit more
pub decimal_push : (v d : ℕ) → 0 < v → d < 10 → v * 10 + d < 2 ^ 64 → decimal (v * 10 + d) ≡ decimal v ++ ((48 + d) ∷ [])
decimal_push v d some h small = decimal_step (v * 10 + d) (omega arith) small ∙ ap (λ (x : ℕ). decimal x ++ ((48 + (v * 10 + d) % 10) ∷ [])) front ∙ ap (λ (x : ℕ). decimal v ++ ((48 + x) ∷ [])) last
  where
    front : (v * 10 + d) / 10 ≡ v
    front = omega arith

    last : (v * 10 + d) % 10 ≡ d
    last = omega arith

-- what can stand behind the digits of v where a number with its comma stands: its comma, or a further digit
pub record Further (t v : ℕ) (s : List ℕ) : Type 0 where
  pub d : ℕ
  pub after : List ℕ
  pub is : s ≡ (48 + d) ∷ after
  pub low : d < 10
  pub some : 0 < v
  pub within : v * 10 + d ≤ t

at_zero : (t : ℕ) → t < 2 ^ 64 → (more s : List ℕ) → decimal t ++ (44 ∷ more) ≡ decimal 0 ++ s → s ≡ 44 ∷ more
at_zero t small more s e =
    ⊎_elim
    (λ (z : t < 1). sym (heads (ap (λ (x : List ℕ). x ++ (44 ∷ more)) (sym (ap decimal (sym (none t z)) ∙ zero_is)) ∙ e ∙ ap (λ (x : List ℕ). x ++ s) zero_is)).1)
    (λ (z : 1 ≤ t). absurd (omega (arith, first_decimal t z small, sym (get_or_append_left (decimal t) (44 ∷ more) 0 0 (decimal_nonempty t small)) ∙ ap (λ (x : List ℕ). get_or x 0 0) (e ∙ ap (λ (x : List ℕ). x ++ s) zero_is))))
    (cases_lt t 1)
  where
    zero_is : decimal 0 ≡ 48 ∷ []
    zero_is = decimal_digit 0 (omega arith)

    none : (t : ℕ) → t < 1 → 0 ≡ t
    none t z = omega arith

pub behind_number : (t v : ℕ) (more s : List ℕ) → t < 2 ^ 64 → v < 2 ^ 64 → decimal t ++ (44 ∷ more) ≡ decimal v ++ s → ((t ≡ v) × (s ≡ 44 ∷ more)) ⊎ Further t v s
behind_number t v more s ht hv e = here s (sym (up_to_decimal v hv s) ∙ ap (up_to 0) (sym e) ∙ up_to_decimal t ht (44 ∷ more)) refl
  where
    back : (c : ℕ) → 48 ≤ c → c ≡ 48 + (c - 48)
    back c h = omega arith

    some_digit : (c : ℕ) (cs : List ℕ) → s ≡ c ∷ cs → 48 ≤ c → 0 < v
    some_digit c cs i h =
        ⊎_elim
        (λ (z : v < 1). absurd (omega (arith, (heads (sym i ∙ at_zero t ht more s (e ∙ ap (λ (x : ℕ). decimal x ++ s) (none z)))).0, h)))
        (λ (z : 1 ≤ v). z)
        (cases_lt v 1)
      where
        none : v < 1 → v ≡ 0
        none z = omega arith

    digits : (c : ℕ) (cs : List ℕ) → s ≡ c ∷ cs → (b : Bool) → digit c ≡ b → cond b (up_to (v * 10 + (c - 48)) cs) (v, c ∷ cs) ≡ (t, 44 ∷ more) → ((t ≡ v) × (c ∷ cs ≡ 44 ∷ more)) ⊎ Further t v (c ∷ cs)
    digits c cs i true h q =
        let r = digit_range c h in
        inr (record {
          d = c - 48;
          after = cs;
          is = ap (λ (x : ℕ). x ∷ cs) (back c r.0);
          low = omega (arith, r.0, r.1);
          some = some_digit c cs i r.0;
          within = omega (arith, up_to_ge (v * 10 + (c - 48)) cs, ap (λ (p : ℕ × List ℕ). p.0) q);
        })
    digits c cs i false h q = inl (sym (ap (λ (p : ℕ × List ℕ). p.0) q), ap (λ (p : ℕ × List ℕ). p.1) q)

    here : (x : List ℕ) → up_to v x ≡ (t, 44 ∷ more) → s ≡ x → ((t ≡ v) × (x ≡ 44 ∷ more)) ⊎ Further t v x
    here [] q i = absurd (nil_cons (ap (λ (p : ℕ × List ℕ). p.1) q))
    here (c ∷ cs) q i = digits c cs i (digit c) refl q
