-- What a list of packets holds.
use Rattle.std.specs.Prelude.{List}
use Rattle.balise.specs.declared.packet.Tbl1Packet.{Tbl1Packet}
use Rattle.few.specs.Items.{items}
use Rattle.few.specs.declared.Few.{Few}

-- the packets in their order
abbrev pub packets_of : Few Tbl1Packet 16 → List Tbl1Packet
packets_of l = items l
