-- What the group memory and the codes that it gives say of what was heard, for every run of telegrams and forgettings.
use Rattle.std.specs.Prelude.{◌≡◌, ◌<◌, true, false, cond, ◌↔◌, List, [], ◌∷◌, ◌++◌, Some, None, Err, Result}
use Rattle.std.specs.List.{AllByRecursion}
use Rattle.balise.specs.declared.code.Code.{Code}
use Rattle.balise.specs.declared.faults.HeaderFault.{HeaderFault}
use Rattle.balise.specs.declared.faults.HeaderFault.TheVariants.{OtherTotal}
use Rattle.balise.specs.declared.header.Header.{Header}
use Rattle.balise.specs.declared.packet.Tbl1Packet.{Tbl1Packet}
use Rattle.group.specs.Groups.{group_of, same_group, stores_for, code_for, heard}
use Rattle.group.specs.declared.codes.Travel.{Travel}
use Rattle.group.specs.declared.codes.Travel.TheVariants.{Nominal, Reverse}
use Rattle.group.specs.declared.memory.GroupId.{GroupId}
use Rattle.group.specs.declared.memory.Heard.{Heard}
use Rattle.group.specs.declared.memory.Memory.{Memory}
use Rattle.group.specs.declared.memory.Memory.TheVariants.{Empty, Open, Closed}
use Rattle.group.specs.declared.memory.OpenGroup.{OpenGroup}

-- Runs.

-- a telegram that was heard, which no question refused: its header, and its TBL1+ packets in their order
pub record Telegram : Type 0 where
  pub header : Header
  pub packets : List Tbl1Packet

abbrev pub telegram_of : Header → List Tbl1Packet → Telegram
telegram_of h ps = record { header = h; packets = ps }

-- what happens to the memory: a telegram is heard, or the group is forgotten. A run is a list of happenings, the newest first
pub data Happening : Type 0 where
  telegram : Telegram → Happening
  forgotten : Happening

-- what a telegram leaves that is heard with this memory
abbrev pub hears : Memory → Telegram → Heard
hears m t = heard m t.header t.packets

-- the memory after a run
abbrev pub memory_after : List Happening → Memory
memory_after [] = Empty
memory_after (telegram t ∷ older) = (hears (memory_after older) t).memory
memory_after (forgotten ∷ older) = Empty

-- a happening is a telegram of this group
abbrev pub IsOf : GroupId → Happening → Type 0
IsOf g (telegram t) = group_of t.header ≡ g
IsOf g forgotten = ⊥

-- the visit to a group: its telegrams since its memory began, the newest first. They are the longest newest part of the run that is telegrams of this group only
abbrev pub visit : GroupId → List Happening → List Telegram
visit g [] = []
visit g (telegram t ∷ older) = cond (same_group g (group_of t.header)) (t ∷ visit g older) []
visit g (forgotten ∷ older) = []

-- What the telegrams of a visit tell. They come the newest first.

-- x is the first telegram
abbrev pub First : Telegram → List Telegram → Type 0
First x telegrams = (later : List Telegram) × (telegrams ≡ later ++ (x ∷ []))

-- the N_PIG of y exceeds that of x in the nominal direction, and is below it in the reverse one
abbrev pub Beyond : Travel → Telegram → Telegram → Type 0
Beyond Nominal x y = x.header.position < y.header.position
Beyond Reverse x y = y.header.position < x.header.position

-- the direction is known: x is the first telegram, y is the first whose N_PIG is not that of x, and y lies beyond x in this direction
pub record Goes (d : Travel) (telegrams : List Telegram) : Type 0 where
  pub x : Telegram
  pub same : List Telegram
  pub y : Telegram
  pub later : List Telegram
  pub parts : telegrams ≡ later ++ (y ∷ (same ++ (x ∷ [])))
  pub level : AllByRecursion (λ s. s.header.position ≡ x.header.position) same
  pub beyond : Beyond d x y

-- the last balise of a group: N_PIG equals N_TOTAL in the nominal direction, and is 0 in the reverse one
abbrev pub AtEnd : Travel → Telegram → Type 0
AtEnd Nominal t = t.header.position ≡ t.header.total
AtEnd Reverse t = t.header.position ≡ 0

-- t, heard after the telegrams before it, comes from the last balise in the direction that is then known
abbrev pub EndsAt : Travel → Telegram → List Telegram → Type 0
EndsAt d t before = Goes d (t ∷ before) × AtEnd d t

-- the group has closed: one of the telegrams came from the last balise in the direction that was then known
pub record HasClosed (telegrams : List Telegram) : Type 0 where
  pub d : Travel
  pub t : Telegram
  pub before : List Telegram
  pub later : List Telegram
  pub parts : telegrams ≡ later ++ (t ∷ before)
  pub ends : EndsAt d t before

-- the packets of the telegrams, in the order in which they were heard
abbrev pub packets_of : List Telegram → List Tbl1Packet
packets_of [] = []
packets_of (t ∷ before) = packets_of before ++ t.packets

-- c is the last code that these packets stored for this direction: p stored it, and no packet after p stored for this direction
pub record LastStored (d : Travel) (c : Code) (packets : List Tbl1Packet) : Type 0 where
  pub before : List Tbl1Packet
  pub p : Tbl1Packet
  pub after : List Tbl1Packet
  pub parts : packets ≡ before ++ (p ∷ after)
  pub stores : stores_for p.direction d ≡ true
  pub code : p.code ≡ c
  pub last : AllByRecursion (λ q. stores_for q.direction d ≡ false) after

-- t, heard after the telegrams before it, gives the code c: those had not closed the group, t comes from the last balise in the direction that is then known, and c is the last code that all of their packets, those of t included, stored for this direction
pub record Gives (c : Code) (t : Telegram) (before : List Telegram) : Type 0 where
  pub d : Travel
  pub open_yet : HasClosed before → ⊥
  pub ends : EndsAt d t before
  pub stored : LastStored d c (packets_of (t ∷ before))

-- the visit has not closed, and its first telegram x had another N_TOTAL than this header
pub record HasOtherTotal (h : Header) (telegrams : List Telegram) : Type 0 where
  pub x : Telegram
  pub first : First x telegrams
  pub open_yet : HasClosed telegrams → ⊥
  pub other : x.header.total ≡ h.total → ⊥

-- an open memory holds what the telegrams tell: N_TOTAL and N_PIG of the first one x, the direction, and for each direction the last code stored
pub record TellsOpen (o : OpenGroup) (telegrams : List Telegram) : Type 0 where
  pub open_yet : HasClosed telegrams → ⊥
  pub x : Telegram
  pub first : First x telegrams
  pub total_is : o.total ≡ x.header.total
  pub first_is : o.first ≡ x.header.position
  pub travel_is : (d : Travel) → (o.travel ≡ Some d) ↔ Goes d telegrams
  pub codes_are : (d : Travel) (c : Code) → (code_for d o.codes ≡ Some c) ↔ LastStored d c (packets_of telegrams)

-- a memory of this group holds what the telegrams tell
abbrev pub Tells : Memory → GroupId → List Telegram → Type 0
Tells Empty g telegrams = ⊥
Tells (Open o) g telegrams = (o.id ≡ g) × TellsOpen o telegrams
Tells (Closed id) g telegrams = (id ≡ g) × HasClosed telegrams

-- The laws. Each speaks of a memory m, a telegram t that is heard with it, and what that leaves, r, for every run that leads to m.

-- each happening leads from the memory after a run to the memory after the run that is longer by it
abbrev pub RunGoesOn : Memory → Happening → Memory → Type 0
RunGoesOn m x n = (past : List Happening) → m ≡ memory_after past → n ≡ memory_after (x ∷ past)

-- a telegram gives a code exactly where its group had not closed and it comes from the last balise in the direction that is known, and the code is the last that the packets of the visit stored for that direction
abbrev pub GivesTheLastStored : Memory → Telegram → Heard → Type 0
GivesTheLastStored m t r = (past : List Happening) → m ≡ memory_after past → (c : Code) → (r.code ≡ Some c) ↔ Gives c t (visit (group_of t.header) past)

-- the memory that is left holds what the visit tells, this telegram included
abbrev pub TellsTheVisit : Memory → Telegram → Heard → Type 0
TellsTheVisit m t r = (past : List Happening) → m ≡ memory_after past → Tells r.memory (group_of t.header) (t ∷ visit (group_of t.header) past)

-- a group gives a code at most once until another group comes or it is forgotten: where y gave one, and all since then were telegrams of its group, t gives none
abbrev pub ActsOnce : Memory → Telegram → Heard → Type 0
ActsOnce m t r = (newer : List Happening) (y : Telegram) (older : List Happening) (c : Code)
    → m ≡ memory_after (newer ++ (telegram y ∷ older))
    → AllByRecursion (IsOf (group_of y.header)) (telegram t ∷ newer)
    → (hears (memory_after older) y).code ≡ Some c
    → r.code ≡ None

-- a group that y closed stays closed and gives no code until another group comes or it is forgotten
abbrev pub StaysClosed : Memory → Telegram → Heard → Type 0
StaysClosed m t r = (newer : List Happening) (y : Telegram) (older : List Happening)
    → m ≡ memory_after (newer ++ (telegram y ∷ older))
    → AllByRecursion (IsOf (group_of y.header)) (telegram t ∷ newer)
    → (hears (memory_after older) y).memory ≡ Closed (group_of y.header)
    → (r.memory ≡ Closed (group_of y.header)) × (r.code ≡ None)

-- a direction, once known, does not change while the group stays remembered and open
abbrev pub DirectionStays : Memory → Telegram → Heard → Type 0
DirectionStays m t r = (newer older : List Happening) (o p : OpenGroup) (d : Travel)
    → m ≡ memory_after (newer ++ older)
    → memory_after older ≡ Open o
    → o.travel ≡ Some d
    → AllByRecursion (IsOf o.id) (telegram t ∷ newer)
    → r.memory ≡ Open p
    → p.travel ≡ Some d

-- the group question refuses a header exactly where the visit to its group has not closed and began with another N_TOTAL
abbrev pub RefusesOtherTotals : Memory → Header → Result Header HeaderFault → Type 0
RefusesOtherTotals m h r = (past : List Happening) → m ≡ memory_after past → (r ≡ Err OtherTotal) ↔ HasOtherTotal h (visit (group_of h) past)
