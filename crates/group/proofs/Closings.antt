-- Whether the telegrams of a visit have closed their group.
use Rattle.std.proofs.Common.{◌≡◌, Bool, true, false, ◌||◌, ◌↔◌, List, [], ◌∷◌, ◌++◌, Some, None, Option, refl, ap, ◌∙◌, ⊎_elim}
use Rattle.std.proofs.lemmas.Bool.{false≢true, cases_Bool, both_ways, eqb-true, eq-eqb, or_cases, or_left, or_right}
use Rattle.balise.specs.declared.header.Header.{Header}
use Rattle.group.specs.GroupLaws.{Telegram, AtEnd, EndsAt, HasClosed}
use Rattle.group.specs.Groups.{closes}
use Rattle.group.specs.declared.codes.Travel.{Travel}
use Rattle.group.specs.declared.codes.Travel.TheVariants.{Nominal, Reverse}
use Rattle.group.proofs.Directions.{direction, direction_goes}

-- a telegram closes the group in the direction that is known
abbrev pub closes_in : Option Travel → Header → Bool
closes_in None h = false
closes_in (Some d) h = closes d h

-- one of the telegrams closed the group
abbrev pub closed : List Telegram → Bool
closed [] = false
closed (t ∷ before) = closed before || closes_in (direction (t ∷ before)) t.header

pub closes_end : (d : Travel) (t : Telegram) → closes d t.header ≡ true → AtEnd d t
closes_end Nominal t e = eqb-true _ _ e
closes_end Reverse t e = eqb-true _ _ e

pub end_closes : (d : Travel) (t : Telegram) → AtEnd d t → closes d t.header ≡ true
end_closes Nominal t e = eq-eqb _ _ e
end_closes Reverse t e = eq-eqb _ _ e

-- once closed, a group stays closed
pub closed_stays : (later telegrams : List Telegram) → closed telegrams ≡ true → closed (later ++ telegrams) ≡ true
closed_stays [] telegrams e = e
closed_stays (t ∷ later) telegrams e = or_left _ _ (closed_stays later telegrams e)

has_closed : (telegrams : List Telegram) → closed telegrams ≡ true → HasClosed telegrams
has_closed [] e = absurd (false≢true e)
has_closed (t ∷ before) e = ⊎_elim (λ k. later_closed (has_closed before k)) (now_closed (direction (t ∷ before)) refl) (or_cases _ _ e)
  where
    later_closed : HasClosed before → HasClosed (t ∷ before)
    later_closed c = record { d = c.d; t = c.t; before = c.before; later = t ∷ c.later; parts = ap (λ (l : List Telegram). t ∷ l) c.parts; ends = c.ends }

    now_closed : (o : Option Travel) → direction (t ∷ before) ≡ o → closes_in o t.header ≡ true → HasClosed (t ∷ before)
    now_closed None k c = absurd (false≢true c)
    now_closed (Some d) k c = record { d = d; t = t; before = before; later = []; parts = refl; ends = ((direction_goes (t ∷ before) d).0 k, closes_end d t c) }

-- a telegram that ends a visit closes the group
pub ends_closes : (d : Travel) (t : Telegram) (before : List Telegram) → EndsAt d t before → closed (t ∷ before) ≡ true
ends_closes d t before e = or_right (closed before) _ (ap (λ (o : Option Travel). closes_in o t.header) ((direction_goes (t ∷ before) d).1 e.0) ∙ end_closes d t e.1)

is_closed : (telegrams : List Telegram) → HasClosed telegrams → closed telegrams ≡ true
is_closed telegrams c = ap closed c.parts ∙ closed_stays c.later (c.t ∷ c.before) (ends_closes c.d c.t c.before c.ends)

pub closed_has : (telegrams : List Telegram) → (closed telegrams ≡ true) ↔ HasClosed telegrams
closed_has telegrams = (has_closed telegrams, is_closed telegrams)

-- a group that has not closed
pub not_closed : (telegrams : List Telegram) → (HasClosed telegrams → ⊥) → closed telegrams ≡ false
not_closed telegrams n = ⊎_elim (λ e. absurd (n (has_closed telegrams e))) (λ e. e) (cases_Bool (closed telegrams))

pub closed_not : (telegrams : List Telegram) → closed telegrams ≡ false → HasClosed telegrams → ⊥
closed_not telegrams e c = both_ways (closed telegrams) e (is_closed telegrams c)
