-- What is printed of a group.
use Rattle.std.specs.Prelude.{ℕ, List, ◌++◌, codes, decimal}
use Rattle.group.specs.declared.codes.Travel.{Travel}
use Rattle.group.specs.declared.codes.Travel.TheVariants.{Nominal, Reverse}
use Rattle.group.specs.declared.memory.GroupId.{GroupId}

-- the letter of a direction of travel
abbrev pub travel_text : Travel → List ℕ
travel_text Nominal = codes "N"
travel_text Reverse = codes "R"

-- a group's country and number, parted by a comma
abbrev pub group_text : GroupId → List ℕ
group_text id = decimal id.country ++ codes "," ++ decimal id.group
