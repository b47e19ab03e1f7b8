-- The memory after a run, against the visit to its group.
use Rattle.std.proofs.Common.{◌≡◌, ℕ, Bool, true, false, cond, ◌||◌, List, [], ◌∷◌, ◌++◌, Some, None, Option, sym, refl, ap, ◌∙◌, subst, ⊎_elim}
use Rattle.std.proofs.lemmas.Bool.{both_ways, cases_Bool, cond-true, cond-false, cond_both, and_parts, and_from, eqb-true, eq-eqb}
use Rattle.std.specs.List.{AllByRecursion}
use Rattle.balise.specs.declared.code.Code.{Code}
use Rattle.balise.specs.declared.header.Header.{Header}
use Rattle.group.specs.GroupLaws.{Telegram, Happening, hears, memory_after, IsOf, visit, packets_of}
use Rattle.group.specs.Groups.{group_of, same_group, code_for, stored, no_codes, closes, begun, gathered, closed_or, gone_on, anew}
use Rattle.group.specs.declared.codes.Codes.{Codes}
use Rattle.group.specs.declared.codes.Travel.{Travel}
use Rattle.group.specs.declared.memory.GroupId.{GroupId}
use Rattle.group.specs.declared.memory.Heard.{Heard}
use Rattle.group.specs.declared.memory.Memory.{Memory}
use Rattle.group.specs.declared.memory.Memory.TheVariants.{Empty, Open, Closed}
use Rattle.group.specs.declared.memory.OpenGroup.{OpenGroup}
use Rattle.group.proofs.Closings.{closes_in, closed}
use Rattle.group.proofs.Directions.{first_of, direction, alone}
use Rattle.group.proofs.Storings.{stored-++}

-- the group of a telegram
abbrev pub group : Telegram → GroupId
group t = group_of t.header

pub same_self : (g : GroupId) → same_group g g ≡ true
same_self g = and_from _ _ (eq-eqb g.country g.country refl) (eq-eqb g.group g.group refl)

pub same_group_lem : (a b : GroupId) → same_group a b ≡ true → a ≡ b
same_group_lem a b e =
    let parts = and_parts _ _ e in
    let id : ℕ → ℕ → GroupId = λ c n. record { country = c; group = n } in
    ap (λ (c : ℕ). id c a.group) (eqb-true _ _ parts.0) ∙ ap (λ (n : ℕ). id b.country n) (eqb-true _ _ parts.1)

pub group_same : (a b : GroupId) → a ≡ b → same_group a b ≡ true
group_same a b e = ap (λ (g : GroupId). same_group a g) (sym e) ∙ same_self a

other_group : (a b : GroupId) → same_group a b ≡ false → same_group b a ≡ false
other_group a b e = ⊎_elim (λ k. absurd (both_ways _ e (group_same a b (sym (same_group_lem b a k))))) (λ k. k) (cases_Bool (same_group b a))

-- the code that a telegram gives in the direction that is known
abbrev pub code_in : Option Travel → Header → Codes → Option Code
code_in None h codes = None
code_in (Some d) h codes = cond (closes d h) (code_for d codes) None

-- what a visit tells, whose newest telegram is t
abbrev pub open_after : GroupId → Telegram → List Telegram → OpenGroup
open_after g t before = record {
  id = g;
  total = (first_of t before).header.total;
  first = (first_of t before).header.position;
  travel = direction (t ∷ before);
  codes = stored no_codes (packets_of (t ∷ before));
}

abbrev pub remembered : GroupId → Telegram → List Telegram → Memory
remembered g t before = cond (closed (t ∷ before)) (Closed g) (Open (open_after g t before))

abbrev pub given : Telegram → List Telegram → Option Code
given t before = cond (closed before) None (code_in (direction (t ∷ before)) t.header (stored no_codes (packets_of (t ∷ before))))

abbrev pub told : Telegram → List Telegram → Heard
told t before = record { memory = remembered (group t) t before; code = given t before }

-- the memory is of this group
abbrev pub remembers : Memory → GroupId → Bool
remembers Empty g = false
remembers (Open o) g = same_group o.id g
remembers (Closed id) g = same_group id g

-- what a memory has to do with the visit to a group
abbrev pub Tracks : GroupId → Memory → List Telegram → Type 0
Tracks g m [] = remembers m g ≡ false
Tracks g m (t ∷ before) = m ≡ remembered g t before

-- a first telegram
begins : (t : Telegram) (m : Memory) → remembers m (group t) ≡ false → hears m t ≡ anew t.header t.packets
begins t Empty e = refl
begins t (Open o) e = cond-false _ _ _ e
begins t (Closed id) e = cond-false _ _ _ e

-- what is left in the direction d, where a telegram goes on
abbrev leaves : Option Travel → OpenGroup → Header → Heard
leaves d o h = record { memory = cond (closes_in d h) (Closed o.id) (Open o); code = code_in d h o.codes }

abbrev directed : Option Travel → OpenGroup → OpenGroup
directed d o = record { id = o.id; total = o.total; first = o.first; travel = d; codes = o.codes }

first_told : (t : Telegram) → told t [] ≡ anew t.header t.packets
first_told t = ap (λ (d : Option Travel). leaves d (directed d (begun t.header t.packets)) t.header) (alone t)

-- a further telegram
closed_or_lem : (d : Option Travel) (o : OpenGroup) (h : Header) → closed_or d o h ≡ leaves d o h
closed_or_lem None o h = refl
closed_or_lem (Some d) o h = by (closes d h)
  where
    by : (b : Bool) → cond b (record { memory = Closed o.id; code = code_for d o.codes }) (record { memory = Open o; code = None }) ≡ (let r : Heard = record { memory = cond b (Closed o.id) (Open o); code = cond b (code_for d o.codes) None } in r)
    by true = refl
    by false = refl

further : (t u : Telegram) (before : List Telegram) (b : Bool)
    → hears (cond b (Closed (group t)) (Open (open_after (group t) u before))) t
    ≡ (let r : Heard = record {
      memory = cond (b || closes_in (direction (t ∷ (u ∷ before))) t.header) (Closed (group t)) (Open (open_after (group t) t (u ∷ before)));
      code = cond b None (code_in (direction (t ∷ (u ∷ before))) t.header (stored no_codes (packets_of (t ∷ (u ∷ before)))));
    } in r)
further t u before true = cond-true _ _ _ (same_self (group t))
further t u before false =
    let o = open_after (group t) u before in
    let with_codes : Codes → OpenGroup = λ codes. record { id = o.id; total = o.total; first = o.first; travel = direction (t ∷ (u ∷ before)); codes = codes } in
    cond-true _ _ _ (same_self (group t))
    ∙ closed_or_lem (gathered o t.header t.packets).travel (gathered o t.header t.packets) t.header
    ∙ ap (λ (codes : Codes). leaves (direction (t ∷ (u ∷ before))) (with_codes codes) t.header) (sym (stored-++ no_codes (packets_of (u ∷ before)) t.packets))

-- what a telegram leaves is what the visit tells
pub hear : (t : Telegram) (m : Memory) (before : List Telegram) → Tracks (group t) m before → hears m t ≡ told t before
hear t m [] k = begins t m k ∙ sym (first_told t)
hear t m (u ∷ before) k = ap (λ (n : Memory). hears n t) k ∙ further t u before (closed (u ∷ before))

-- the memory is then of the telegram's group
remembers_closed_or : (d : Option Travel) (o : OpenGroup) (h : Header) (g : GroupId) → remembers (closed_or d o h).memory g ≡ same_group o.id g
remembers_closed_or None o h g = refl
remembers_closed_or (Some d) o h g = cond_both (closes d h) _ _ (λ (r : Heard). remembers r.memory g ≡ same_group o.id g) (λ _. refl) (λ _. refl)

remembers_heard : (t : Telegram) (m : Memory) (g : GroupId) → remembers (hears m t).memory g ≡ same_group (group t) g
remembers_heard t Empty g = refl
remembers_heard t (Open o) g = cond_both (same_group o.id (group t)) _ _ (λ (r : Heard). remembers r.memory g ≡ same_group (group t) g) same (λ _. refl)
  where
    same : same_group o.id (group t) ≡ true → remembers (gone_on o t.header t.packets).memory g ≡ same_group (group t) g
    same e = let p = gathered o t.header t.packets in remembers_closed_or p.travel p t.header g ∙ ap (λ (k : GroupId). same_group k g) (same_group_lem o.id (group t) e)
remembers_heard t (Closed id) g = cond_both (same_group id (group t)) _ _ (λ (r : Heard). remembers r.memory g ≡ same_group (group t) g) (λ e. ap (λ (k : GroupId). same_group k g) (same_group_lem id (group t) e)) (λ _. refl)

-- after every run, the memory is what the visit to a group tells, or is not of that group
pub tracks : (g : GroupId) (past : List Happening) → Tracks g (memory_after past) (visit g past)
tracks g [] = refl
tracks g (Happening.forgotten ∷ older) = refl
tracks g (Happening.telegram t ∷ older) = by (same_group g (group t)) refl (tracks g older)
  where
    by : (b : Bool) → same_group g (group t) ≡ b → Tracks g (memory_after older) (visit g older) → Tracks g (hears (memory_after older) t).memory (cond b (t ∷ visit g older) [])
    by true e k = subst (λ (i : GroupId). Tracks i (memory_after older) (visit g older) → (hears (memory_after older) t).memory ≡ remembered i t (visit g older)) (sym (same_group_lem g (group t) e)) (λ l. ap (λ (r : Heard). r.memory) (hear t (memory_after older) (visit g older) l)) k
    by false e k = remembers_heard t (memory_after older) g ∙ other_group g (group t) e

pub heard_after : (m : Memory) (t : Telegram) (past : List Happening) → m ≡ memory_after past → hears m t ≡ told t (visit (group t) past)
heard_after m t past e = ap (λ (n : Memory). hears n t) e ∙ hear t (memory_after past) (visit (group t) past) (tracks (group t) past)

-- telegrams of the group lengthen its visit
pub visit_longer : (g : GroupId) (newer older : List Happening) → AllByRecursion (IsOf g) newer → (later : List Telegram) × (visit g (newer ++ older) ≡ later ++ visit g older)
visit_longer g [] older a = ([], refl)
visit_longer g (Happening.forgotten ∷ newer) older a = absurd a.0
visit_longer g (Happening.telegram t ∷ newer) older a =
    let rest = visit_longer g newer older a.1 in
    (t ∷ rest.0, cond-true _ _ _ (group_same g (group t) (sym a.0)) ∙ ap (λ (l : List Telegram). t ∷ l) rest.1)
