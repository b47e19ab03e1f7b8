-- How a telegram is heard for the memory of a balise group.
use Rattle.std.specs.Prelude.{ℕ, Bool, true, false, cond, not, ◌&&◌, List, Some, None, Ok, Err, Option, Result, ◌==◌, fold, nat_lt}
use Rattle.balise.specs.declared.code.Code.{Code}
use Rattle.balise.specs.declared.faults.HeaderFault.{HeaderFault}
use Rattle.balise.specs.declared.faults.HeaderFault.TheVariants.{OtherTotal}
use Rattle.balise.specs.declared.header.Header.{Header}
use Rattle.balise.specs.declared.packet.Direction.{Direction}
use Rattle.balise.specs.declared.packet.Direction.TheVariants.{Reverse as for_reverse, Nominal as for_nominal, Both as for_both}
use Rattle.balise.specs.declared.packet.Tbl1Packet.{Tbl1Packet}
use Rattle.group.specs.declared.codes.Codes.{Codes}
use Rattle.group.specs.declared.codes.Travel.{Travel}
use Rattle.group.specs.declared.codes.Travel.TheVariants.{Nominal, Reverse}
use Rattle.group.specs.declared.memory.GroupId.{GroupId}
use Rattle.group.specs.declared.memory.Heard.{Heard}
use Rattle.group.specs.declared.memory.Memory.{Memory}
use Rattle.group.specs.declared.memory.Memory.TheVariants.{Empty, Open, Closed}
use Rattle.group.specs.declared.memory.OpenGroup.{OpenGroup}

-- a balise group is known by its country and its number
abbrev pub group_of : Header → GroupId
group_of h = record { country = h.country; group = h.group }

abbrev pub same_group : GroupId → GroupId → Bool
same_group a b = a.country == b.country && a.group == b.group

-- the memory is open and of this telegram's group, and the telegram's N_TOTAL is not the remembered one
abbrev pub other_total : Memory → Header → Bool
other_total Empty h = false
other_total (Open o) h = same_group o.id (group_of h) && not (o.total == h.total)
other_total (Closed id) h = false

-- the group question refuses such a telegram; a closed group, and a telegram of another group, are not asked
abbrev pub asked : Memory → Header → Result Header HeaderFault
asked m h = cond (other_total m h) (Err OtherTotal) (Ok h)

-- a direction not known yet is settled: nominal if N_PIG exceeds that of the group's first telegram, reverse if it is below, still not known if it is equal; a direction that is known stays
abbrev pub settled : Option Travel → ℕ → ℕ → Option Travel
settled (Some d) first position = Some d
settled None first position = cond (nat_lt first position) (Some Nominal) (cond (nat_lt position first) (Some Reverse) None)

-- Q_DIR 1 stores for the nominal direction, Q_DIR 0 for the reverse one, Q_DIR 2 for both
abbrev pub stores_for : Direction → Travel → Bool
stores_for for_nominal Nominal = true
stores_for for_nominal Reverse = false
stores_for for_reverse Nominal = false
stores_for for_reverse Reverse = true
stores_for for_both d = true

-- the code stored for a direction
abbrev pub code_for : Travel → Codes → Option Code
code_for Nominal codes = codes.nominal
code_for Reverse codes = codes.reverse

-- a later code takes the place of an earlier one
abbrev pub replaced_for : Travel → Codes → Tbl1Packet → Option Code
replaced_for d codes p = cond (stores_for p.direction d) (Some p.code) (code_for d codes)

abbrev pub replaced : Codes → Tbl1Packet → Codes
replaced codes p = record { nominal = replaced_for Nominal codes p; reverse = replaced_for Reverse codes p }

-- the packets store their codes, in their order
abbrev pub stored : Codes → List Tbl1Packet → Codes
stored codes ps = fold replaced codes ps

abbrev pub no_codes : Codes
no_codes = record { nominal = None; reverse = None }

-- the group closes if the direction is nominal and N_PIG equals N_TOTAL, or if it is reverse and N_PIG is 0
abbrev pub closes : Travel → Header → Bool
closes Nominal h = h.position == h.total
closes Reverse h = h.position == 0

-- a new open memory: with the telegram's N_TOTAL and N_PIG, the direction not known, and the codes that its packets store
abbrev pub begun : Header → List Tbl1Packet → OpenGroup
begun h ps = record {
  id = group_of h;
  total = h.total;
  first = h.position;
  travel = None;
  codes = stored no_codes ps;
}

-- the open memory with a further telegram: the direction settled, the codes stored
abbrev pub gathered : OpenGroup → Header → List Tbl1Packet → OpenGroup
gathered o h ps = record {
  id = o.id;
  total = o.total;
  first = o.first;
  travel = settled o.travel o.first h.position;
  codes = stored o.codes ps;
}

-- where the group closes, the code stored for its direction is the code of the group, and the memory is then closed; else it stays open, and there is no code
abbrev pub closed_or : Option Travel → OpenGroup → Header → Heard
closed_or None o h = record { memory = Open o; code = None }
closed_or (Some d) o h = cond (closes d h) (record { memory = Closed o.id; code = code_for d o.codes }) (record { memory = Open o; code = None })

-- the memory is open and of this group
abbrev pub gone_on : OpenGroup → Header → List Tbl1Packet → Heard
gone_on o h ps = closed_or (gathered o h ps).travel (gathered o h ps) h

-- the memory is closed and of this group: the telegram is passed over, the memory stays, and there is no code
abbrev pub passed_over : GroupId → Heard
passed_over id = record { memory = Closed id; code = None }

-- the memory is none, or of another group: a new open memory takes its place, and there is no code
abbrev pub anew : Header → List Tbl1Packet → Heard
anew h ps = record { memory = Open (begun h ps); code = None }

-- a telegram is heard
abbrev pub heard : Memory → Header → List Tbl1Packet → Heard
heard Empty h ps = anew h ps
heard (Open o) h ps = cond (same_group o.id (group_of h)) (gone_on o h ps) (anew h ps)
heard (Closed id) h ps = cond (same_group id (group_of h)) (passed_over id) (anew h ps)
