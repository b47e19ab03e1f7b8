-- What a few items are.
use Rattle.std.specs.Prelude.{List, take}
use Rattle.few.specs.declared.Few.{Few}
use Rattle.few.specs.declared.NoRoom.{NoRoom}

-- the items in their order
abbrev pub items : {T N : _} → Few T N → List T
items f = take f.len f.slots

-- that there is no room
abbrev pub no_room : NoRoom
no_room = record {}
