-- The laws of the group memory.
use Rattle.std.proofs.Common.{◌≡◌, Bool, true, false, cond, ◌||◌, List, [], ◌∷◌, ◌++◌, Some, None, Option, sym, refl, ap, ◌∙◌, subst}
use Rattle.std.proofs.lemmas.Bool.{both_ways, cond-true, cond-false}
use Rattle.std.proofs.lemmas.Option.{none-some}
use Rattle.std.specs.List.{AllByRecursion}
use Rattle.balise.specs.declared.code.Code.{Code}
use Rattle.balise.specs.declared.header.Header.{Header}
use Rattle.balise.specs.declared.packet.Tbl1Packet.{Tbl1Packet}
use Rattle.group.specs.GroupLaws.{Telegram, telegram_of, Happening, hears, memory_after, IsOf, visit, packets_of, Gives, Tells, RunGoesOn, GivesTheLastStored, TellsTheVisit, ActsOnce, StaysClosed, DirectionStays}
use Rattle.group.specs.Groups.{same_group, code_for, stored, no_codes, closes, heard}
use Rattle.group.specs.declared.codes.Travel.{Travel}
use Rattle.group.specs.declared.memory.GroupId.{GroupId}
use Rattle.group.specs.declared.memory.Heard.{Heard}
use Rattle.group.specs.declared.memory.Memory.{Memory}
use Rattle.group.specs.declared.memory.Memory.TheVariants.{Open, Closed}
use Rattle.group.specs.declared.memory.OpenGroup.{OpenGroup}
use Rattle.group.proofs.Closings.{closes_in, closed, closed_has, closed_stays, ends_closes, not_closed, closed_not, closes_end, end_closes}
use Rattle.group.proofs.Directions.{first_of, direction, first_of_lem, direction_goes, known_stays}
use Rattle.group.proofs.Storings.{stored_last}
use Rattle.group.proofs.Visits.{group, open_after, remembered, code_in, given, told, remembers, Tracks, tracks, heard_after, visit_longer, same_self}

-- the code that a visit gives
given_gives : (t : Telegram) (before : List Telegram) (c : Code) → given t before ≡ Some c → Gives c t before
given_gives t before c = by (closed before) refl (direction (t ∷ before)) refl
  where
    at : (d : Travel) (b : Bool) → closes d t.header ≡ b → closed before ≡ false → direction (t ∷ before) ≡ Some d → cond b (code_for d (stored no_codes (packets_of (t ∷ before)))) None ≡ Some c → Gives c t before
    at d true e o k g = record { d = d; open_yet = closed_not before o; ends = ((direction_goes (t ∷ before) d).0 k, closes_end d t e); stored = (stored_last d c (packets_of (t ∷ before))).0 g }
    at d false e o k g = absurd (none-some c g)

    by : (b : Bool) → closed before ≡ b → (d : Option Travel) → direction (t ∷ before) ≡ d → cond b None (code_in d t.header (stored no_codes (packets_of (t ∷ before)))) ≡ Some c → Gives c t before
    by true o d k g = absurd (none-some c g)
    by false o None k g = absurd (none-some c g)
    by false o (Some d) k g = at d (closes d t.header) refl o k g

gives_given : (t : Telegram) (before : List Telegram) (c : Code) → Gives c t before → given t before ≡ Some c
gives_given t before c g =
    let codes = stored no_codes (packets_of (t ∷ before)) in
    let d = g.d in
    cond-false _ _ _ (not_closed before g.open_yet)
    ∙ ap (λ (o : Option Travel). code_in o t.header codes) ((direction_goes (t ∷ before) d).1 g.ends.0)
    ∙ cond-true _ _ _ (end_closes d t g.ends.1)
    ∙ (stored_last d c (packets_of (t ∷ before))).1 g.stored

gives_the_last_stored : (m : Memory) (t : Telegram) → GivesTheLastStored m t (hears m t)
gives_the_last_stored m t past e c =
    let before = visit (group t) past in
    let is : (hears m t).code ≡ given t before = ap (λ (r : Heard). r.code) (heard_after m t past e) in
    ((λ k. given_gives t before c (sym is ∙ k)), (λ g. is ∙ gives_given t before c g))

-- what the memory holds
tells_remembered : (g : GroupId) (t : Telegram) (before : List Telegram) → Tells (remembered g t before) g (t ∷ before)
tells_remembered g t before = by (closed (t ∷ before)) refl
  where
    by : (b : Bool) → closed (t ∷ before) ≡ b → Tells (cond b (Closed g) (Open (open_after g t before))) g (t ∷ before)
    by true e = (refl, (closed_has (t ∷ before)).0 e)
    by false e = (
      refl,
      record {
        open_yet = closed_not (t ∷ before) e;
        x = first_of t before;
        first = first_of_lem t before;
        total_is = refl;
        first_is = refl;
        travel_is = direction_goes (t ∷ before);
        codes_are = λ d c. stored_last d c (packets_of (t ∷ before));
      },
    )

tells_the_visit : (m : Memory) (t : Telegram) → TellsTheVisit m t (hears m t)
tells_the_visit m t past e = subst (λ (r : Heard). Tells r.memory (group t) (t ∷ visit (group t) past)) (sym (heard_after m t past e)) (tells_remembered (group t) t (visit (group t) past))

-- a group that has closed
told_closed : (t : Telegram) (before : List Telegram) → closed before ≡ true → told t before ≡ record { memory = Closed (group t); code = None }
told_closed t before e = ap (λ (b : Bool). record {
  memory = cond (b || closes_in (direction (t ∷ before)) t.header) (Closed (group t)) (Open (open_after (group t) t before));
  code = cond b None (code_in (direction (t ∷ before)) t.header (stored no_codes (packets_of (t ∷ before))));
}) e

closed_earlier : (m : Memory) (t : Telegram) (newer : List Happening) (y : Telegram) (older : List Happening)
    → m ≡ memory_after (newer ++ (Happening.telegram y ∷ older))
    → AllByRecursion (IsOf (group y)) (Happening.telegram t ∷ newer)
    → closed (y ∷ visit (group y) older) ≡ true
    → hears m t ≡ record { memory = Closed (group y); code = None }
closed_earlier m t newer y older e a k =
    let past = newer ++ (Happening.telegram y ∷ older) in
    let longer = visit_longer (group y) newer (Happening.telegram y ∷ older) a.1 in
    let from_y : visit (group y) (Happening.telegram y ∷ older) ≡ y ∷ visit (group y) older = cond-true _ _ _ (same_self (group y)) in
    let same : visit (group t) past ≡ longer.0 ++ (y ∷ visit (group y) older) =
    ap (λ (g : GroupId). visit g past) a.0 ∙ longer.1 ∙ ap (λ (l : List Telegram). longer.0 ++ l) from_y in
    let is_closed : closed (visit (group t) past) ≡ true = ap closed same ∙ closed_stays longer.0 (y ∷ visit (group y) older) k in
    heard_after m t past e
    ∙ told_closed t (visit (group t) past) is_closed
    ∙ ap (λ (g : GroupId). record { memory = Closed g; code = None }) a.0

acts_once : (m : Memory) (t : Telegram) → ActsOnce m t (hears m t)
acts_once m t newer y older c e a k =
    let gives = (gives_the_last_stored (memory_after older) y older refl c).0 k in
    ap (λ (r : Heard). r.code) (closed_earlier m t newer y older e a (ends_closes gives.d y (visit (group y) older) gives.ends))

closed_only : (b : Bool) (g h : GroupId) (o : OpenGroup) → cond b (Closed g) (Open o) ≡ Closed h → b ≡ true
closed_only true g h o e = refl
closed_only false g h o e = cc

stays_closed : (m : Memory) (t : Telegram) → StaysClosed m t (hears m t)
stays_closed m t newer y older e a k =
    let was : remembered (group y) y (visit (group y) older) ≡ Closed (group y) = ap (λ (r : Heard). r.memory) (sym (heard_after (memory_after older) y older refl)) ∙ k in
    let now = closed_earlier m t newer y older e a (closed_only _ _ _ _ was) in
    (ap (λ (r : Heard). r.memory) now, ap (λ (r : Heard). r.code) now)

-- a group that is open
open_only : (b : Bool) (g : GroupId) (o p : OpenGroup) → cond b (Closed g) (Open o) ≡ Open p → o ≡ p
open_only true g o p e = cc
open_only false g o p e = cc

open_tracked : (o : OpenGroup) (m : Memory) (telegrams : List Telegram) (d : Travel) → Tracks o.id m telegrams → m ≡ Open o → o.travel ≡ Some d → direction telegrams ≡ Some d
open_tracked o m [] d k e i = absurd (both_ways (same_group o.id o.id) (ap (λ (n : Memory). remembers n o.id) (sym e) ∙ k) (same_self o.id))
open_tracked o m (u ∷ before) d k e i = ap (λ (p : OpenGroup). p.travel) (open_only _ o.id (open_after o.id u before) o (sym k ∙ e)) ∙ i

direction_stays : (m : Memory) (t : Telegram) → DirectionStays m t (hears m t)
direction_stays m t newer older o p d e was known a now =
    let past = newer ++ older in
    let longer = visit_longer o.id newer older a.1 in
    let same : visit (group t) past ≡ longer.0 ++ visit o.id older = ap (λ (g : GroupId). visit g past) a.0 ∙ longer.1 in
    let before : direction (visit o.id older) ≡ Some d = open_tracked o (memory_after older) (visit o.id older) d (tracks o.id older) was known in
    let after : direction (t ∷ visit (group t) past) ≡ Some d = ap (λ (l : List Telegram). direction (t ∷ l)) same ∙ known_stays (t ∷ longer.0) (visit o.id older) d before in
    let memory : remembered (group t) t (visit (group t) past) ≡ Open p = ap (λ (r : Heard). r.memory) (sym (heard_after m t past e)) ∙ now in
    ap (λ (q : OpenGroup). q.travel) (sym (open_only _ _ _ _ memory)) ∙ after

-- all that is promised of what hearing a telegram leaves
pub lawful : (m : Memory) (h : Header) (ps : List Tbl1Packet) (r : Heard) → r ≡ heard m h ps → record {
  value : r ≡ heard m h ps;
  run_goes_on : RunGoesOn m (Happening.telegram (telegram_of h ps)) r.memory;
  gives_the_last_stored : GivesTheLastStored m (telegram_of h ps) r;
  tells_the_visit : TellsTheVisit m (telegram_of h ps) r;
  acts_once : ActsOnce m (telegram_of h ps) r;
  stays_closed : StaysClosed m (telegram_of h ps) r;
  direction_stays : DirectionStays m (telegram_of h ps) r;
}
lawful m h ps r is =
    let t = telegram_of h ps in
    record {
      value = is;
      run_goes_on = λ past e. ap (λ (q : Heard). q.memory) is ∙ ap (λ (n : Memory). (hears n t).memory) e;
      gives_the_last_stored = subst (λ (q : Heard). GivesTheLastStored m t q) (sym is) (gives_the_last_stored m t);
      tells_the_visit = subst (λ (q : Heard). TellsTheVisit m t q) (sym is) (tells_the_visit m t);
      acts_once = subst (λ (q : Heard). ActsOnce m t q) (sym is) (acts_once m t);
      stays_closed = subst (λ (q : Heard). StaysClosed m t q) (sym is) (stays_closed m t);
      direction_stays = subst (λ (q : Heard). DirectionStays m t q) (sym is) (direction_stays m t);
    }
