-- The direction that the telegrams of a visit settle, against the first telegram with another N_PIG than the first.
use Rattle.std.proofs.Common.{◌≡◌, ℕ, ◌⊎◌, ◌↔◌, List, [], ◌∷◌, ◌++◌, Some, None, Option, sym, refl, ap, ◌∙◌, inl, inr, ⊎_elim, arith}
use Rattle.std.proofs.lemmas.Bool.Decides.{nat_tests}
use Rattle.std.proofs.lemmas.Option.{none-some}
use Rattle.std.specs.List.{AllByRecursion}
use Rattle.group.specs.GroupLaws.{Telegram, First, Beyond, Goes}
use Rattle.group.specs.Groups.{settled}
use Rattle.group.specs.declared.codes.Travel.{Travel}
use Rattle.group.specs.declared.codes.Travel.TheVariants.{Nominal, Reverse}

-- the first telegram of a visit whose newest is t
abbrev pub first_of : Telegram → List Telegram → Telegram
first_of t [] = t
first_of t (u ∷ before) = first_of u before

-- the direction settled telegram by telegram
abbrev pub direction : List Telegram → Option Travel
direction [] = None
direction (t ∷ before) = settled (direction before) (first_of t before).header.position t.header.position

pub first_last : (t : Telegram) (later : List Telegram) (x : Telegram) → first_of t (later ++ (x ∷ [])) ≡ x
first_last t [] x = refl
first_last t (u ∷ later) x = first_last u later x

pub first_of_lem : (t : Telegram) (before : List Telegram) → First (first_of t before) (t ∷ before)
first_of_lem t [] = ([], refl)
first_of_lem t (u ∷ before) = let f = first_of_lem u before in (t ∷ f.0, ap (λ (l : List Telegram). t ∷ l) f.1)

-- a direction that is known stays
pub known_stays : (later telegrams : List Telegram) (d : Travel) → direction telegrams ≡ Some d → direction (later ++ telegrams) ≡ Some d
known_stays [] telegrams d e = e
known_stays (t ∷ later) telegrams d e = ap (λ (o : Option Travel). settled o (first_of t (later ++ telegrams)).header.position t.header.position) (known_stays later telegrams d e)

-- the same N_PIG settles nothing
level_settles : (a b : ℕ) → b ≡ a → settled None a b ≡ None
level_settles a b e = grind (arith, nat_tests)

settles_level : (a b : ℕ) → settled None a b ≡ None → b ≡ a
settles_level a b e = grind (arith, nat_tests)

beyond_settles : (d : Travel) (x y : Telegram) → Beyond d x y → settled None x.header.position y.header.position ≡ Some d
beyond_settles Nominal x y h = grind (arith, nat_tests)
beyond_settles Reverse x y h = grind (arith, nat_tests)

settles_beyond : (d : Travel) (x y : Telegram) → settled None x.header.position y.header.position ≡ Some d → Beyond d x y
settles_beyond Nominal x y e = grind (arith, nat_tests)
settles_beyond Reverse x y e = grind (arith, nat_tests)

-- a first telegram alone settles nothing
pub alone : (t : Telegram) → direction (t ∷ []) ≡ None
alone t = level_settles t.header.position t.header.position refl

-- telegrams of one N_PIG, the first of them x
record Level (telegrams : List Telegram) : Type 0 where
  pub x : Telegram
  pub same : List Telegram
  pub parts : telegrams ≡ same ++ (x ∷ [])
  pub level : AllByRecursion (λ s. s.header.position ≡ x.header.position) same

level_none : (x : Telegram) (same : List Telegram) → AllByRecursion (λ s. s.header.position ≡ x.header.position) same → direction (same ++ (x ∷ [])) ≡ None
level_none x [] l = alone x
level_none x (s ∷ same) l =
    ap (λ (o : Option Travel). settled o (first_of s (same ++ (x ∷ []))).header.position s.header.position) (level_none x same l.1)
    ∙ ap (λ (f : Telegram). settled None f.header.position s.header.position) (first_last s same x)
    ∙ level_settles x.header.position s.header.position l.0

-- one more telegram, where the others are of one N_PIG
settled_by : (y : Telegram) (telegrams : List Telegram) (l : Level telegrams) → settled None (first_of y telegrams).header.position y.header.position ≡ settled None l.x.header.position y.header.position
settled_by y telegrams l =
    let first : first_of y telegrams ≡ l.x = ap (first_of y) l.parts ∙ first_last y l.same l.x in
    ap (λ (f : Telegram). settled None f.header.position y.header.position) first

-- where nothing is settled there is no telegram, or all are of one N_PIG
none_level : (telegrams : List Telegram) → direction telegrams ≡ None → (telegrams ≡ []) ⊎ Level telegrams
none_level [] e = inl refl
none_level (t ∷ before) e = inr (go (direction before) refl e (none_level before))
  where
    start : before ≡ [] → Level (t ∷ before)
    start p = record { x = t; same = []; parts = ap (λ (l : List Telegram). t ∷ l) p; level = tt }

    more : settled None (first_of t before).header.position t.header.position ≡ None → Level before → Level (t ∷ before)
    more k l = record {
      x = l.x;
      same = t ∷ l.same;
      parts = ap (λ (m : List Telegram). t ∷ m) l.parts;
      level = (settles_level l.x.header.position t.header.position (sym (settled_by t before l) ∙ k), l.level);
    }

    go : (o : Option Travel) → direction before ≡ o → settled o (first_of t before).header.position t.header.position ≡ None → (direction before ≡ None → (before ≡ []) ⊎ Level before) → Level (t ∷ before)
    go None d k ih = ⊎_elim start (more k) (ih d)
    go (Some u) d k ih = absurd (none-some u (sym k))

-- what is settled is the direction that the visit goes
settled_goes : (telegrams : List Telegram) (d : Travel) → direction telegrams ≡ Some d → Goes d telegrams
settled_goes [] d e = absurd (none-some d e)
settled_goes (t ∷ before) d e = go (direction before) refl e (settled_goes before d)
  where
    later_goes : Goes d before → Goes d (t ∷ before)
    later_goes g = record { x = g.x; same = g.same; y = g.y; later = t ∷ g.later; parts = ap (λ (l : List Telegram). t ∷ l) g.parts; level = g.level; beyond = g.beyond }

    start : settled None (first_of t before).header.position t.header.position ≡ Some d → before ≡ [] → Goes d (t ∷ before)
    start k p = absurd (none-some d (sym (alone t) ∙ ap (λ (l : List Telegram). settled None (first_of t l).header.position t.header.position) (sym p) ∙ k))

    now_goes : settled None (first_of t before).header.position t.header.position ≡ Some d → Level before → Goes d (t ∷ before)
    now_goes k l = record {
      x = l.x;
      same = l.same;
      y = t;
      later = [];
      parts = ap (λ (m : List Telegram). t ∷ m) l.parts;
      level = l.level;
      beyond = settles_beyond d l.x t (sym (settled_by t before l) ∙ k);
    }

    go : (o : Option Travel) → direction before ≡ o → settled o (first_of t before).header.position t.header.position ≡ Some d → (direction before ≡ Some d → Goes d before) → Goes d (t ∷ before)
    go None p k ih = ⊎_elim (start k) (now_goes k) (none_level before p)
    go (Some u) p k ih = later_goes (ih (p ∙ k))

goes_settled : (telegrams : List Telegram) (d : Travel) → Goes d telegrams → direction telegrams ≡ Some d
goes_settled telegrams d g =
    let before = g.same ++ (g.x ∷ []) in
    let y = g.y in
    let known : direction (y ∷ before) ≡ Some d =
    ap (λ (o : Option Travel). settled o (first_of y before).header.position y.header.position) (level_none g.x g.same g.level)
    ∙ ap (λ (f : Telegram). settled None f.header.position y.header.position) (first_last y g.same g.x)
    ∙ beyond_settles d g.x y g.beyond in
    ap direction g.parts ∙ known_stays g.later (y ∷ before) d known

pub direction_goes : (telegrams : List Telegram) (d : Travel) → (direction telegrams ≡ Some d) ↔ Goes d telegrams
direction_goes telegrams d = (settled_goes telegrams d, goes_settled telegrams d)
