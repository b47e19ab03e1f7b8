-- The law of the group question.
use Rattle.std.proofs.Common.{◌≡◌, Bool, true, false, cond, ◌↔◌, List, [], ◌∷◌, ◌++◌, Some, None, Ok, Err, Option, Result, sym, refl, ap, ◌∙◌, subst}
use Rattle.std.proofs.lemmas.Bool.{both_ways, false≢true, not-true, not_from_false, and_parts, and_from, and_left, cond-true, eqb-false, ne_eqb}
use Rattle.std.proofs.lemmas.Option.{none-some, same_Some}
use Rattle.balise.specs.declared.faults.HeaderFault.{HeaderFault}
use Rattle.balise.specs.declared.faults.HeaderFault.TheVariants.{OtherTotal}
use Rattle.balise.specs.declared.header.Header.{Header}
use Rattle.group.specs.GroupLaws.{Telegram, visit, First, HasOtherTotal, RefusesOtherTotals}
use Rattle.group.specs.Groups.{group_of, other_total, asked}
use Rattle.group.specs.declared.memory.Memory.{Memory}
use Rattle.group.specs.declared.memory.Memory.TheVariants.{Empty, Open, Closed}
use Rattle.group.proofs.Closings.{closed, closed_has, closed_not}
use Rattle.group.proofs.Directions.{first_of, first_of_lem, first_last}
use Rattle.group.proofs.Visits.{open_after, remembers, Tracks, tracks, same_self}

-- the first telegram, if any
abbrev oldest : List Telegram → Option Telegram
oldest [] = None
oldest (t ∷ before) = Some (first_of t before)

oldest_last : (later : List Telegram) (x : Telegram) → oldest (later ++ (x ∷ [])) ≡ Some x
oldest_last [] x = refl
oldest_last (t ∷ later) x = ap Some (first_last t later x)

first_oldest : (x : Telegram) (telegrams : List Telegram) → First x telegrams → oldest telegrams ≡ Some x
first_oldest x telegrams f = ap oldest f.1 ∙ oldest_last f.0 x

-- a header is refused where the memory has another N_TOTAL for its group
refused_other : (m : Memory) (h : Header) → (asked m h ≡ Err OtherTotal) ↔ (other_total m h ≡ true)
refused_other m h = (by (other_total m h), (λ e. cond-true _ _ _ e))
  where
    by : (b : Bool) → cond b (Err OtherTotal) (Ok h) ≡ Err OtherTotal → b ≡ true
    by true e = refl
    by false e = cc

-- of a group that is not remembered
not_other : (m : Memory) (h : Header) → remembers m (group_of h) ≡ false → other_total m h ≡ false
not_other Empty h e = refl
not_other (Open o) h e = and_left _ _ e
not_other (Closed id) h e = refl

-- of the group that is remembered
other_differs : (h : Header) (u : Telegram) (before : List Telegram) (b : Bool) → closed (u ∷ before) ≡ b → other_total (cond b (Closed (group_of h)) (Open (open_after (group_of h) u before))) h ≡ true → HasOtherTotal h (u ∷ before)
other_differs h u before true c e = absurd (false≢true e)
other_differs h u before false c e =
    record { x = first_of u before; first = first_of_lem u before; open_yet = closed_not (u ∷ before) c; other = eqb-false _ _ (not-true _ (and_parts _ _ e).1) }

differs_other : (h : Header) (u : Telegram) (before : List Telegram) (b : Bool) → closed (u ∷ before) ≡ b → HasOtherTotal h (u ∷ before) → other_total (cond b (Closed (group_of h)) (Open (open_after (group_of h) u before))) h ≡ true
differs_other h u before true c d = absurd (d.open_yet ((closed_has (u ∷ before)).0 c))
differs_other h u before false c d =
    let same = same_Some (first_of u before) d.x (first_oldest d.x (u ∷ before) d.first) in
    let other = ne_eqb (first_of u before).header.total h.total (λ e. d.other (ap (λ (x : Telegram). x.header.total) (sym same) ∙ e)) in
    and_from _ _ (same_self (group_of h)) (not_from_false _ other)

tracked_other : (m : Memory) (h : Header) (telegrams : List Telegram) → Tracks (group_of h) m telegrams → (other_total m h ≡ true) ↔ HasOtherTotal h telegrams
tracked_other m h [] k = ((λ e. absurd (both_ways _ (not_other m h k) e)), (λ d. absurd (none-some d.x (first_oldest d.x [] d.first))))
tracked_other m h (u ∷ before) k =
    subst (λ (n : Memory). (other_total n h ≡ true) ↔ HasOtherTotal h (u ∷ before)) (sym k) (other_differs h u before (closed (u ∷ before)) refl, differs_other h u before (closed (u ∷ before)) refl)

refuses_other_totals : (m : Memory) (h : Header) → RefusesOtherTotals m h (asked m h)
refuses_other_totals m h past e =
    let tracked = tracked_other m h (visit (group_of h) past) (subst (λ (n : Memory). Tracks (group_of h) n (visit (group_of h) past)) (sym e) (tracks (group_of h) past)) in
    let refused = refused_other m h in
    ((λ r. tracked.0 (refused.0 r)), (λ d. refused.1 (tracked.1 d)))

-- all that is promised of the answer to the group question
pub lawful : (m : Memory) (h : Header) (r : Result Header HeaderFault) → r ≡ asked m h → record {
  value : r ≡ asked m h;
  refuses_other_totals : RefusesOtherTotals m h r;
}
lawful m h r is = record { value = is; refuses_other_totals = subst (λ (q : Result Header HeaderFault). RefusesOtherTotals m h q) (sym is) (refuses_other_totals m h) }
