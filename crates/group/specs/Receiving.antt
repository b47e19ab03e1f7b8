-- How a telegram is heard from its bytes on: frame, header, group question, packets, memory. The first fault is the answer.
use Rattle.std.specs.Prelude.{ℕ, Bool, List, Ok, Err, Result}
use Rattle.telegram.specs.Telegrams.{Opened, frame_of, accepted_of, packets_in, of_header}
use Rattle.balise.specs.declared.faults.FrameFault.{FrameFault}
use Rattle.balise.specs.declared.faults.HeaderFault.{HeaderFault}
use Rattle.balise.specs.declared.faults.HeaderFault.TheVariants.{Packet}
use Rattle.balise.specs.declared.faults.PacketFault.{PacketFault}
use Rattle.balise.specs.declared.header.Header.{Header}
use Rattle.balise.specs.declared.packet.Tbl1Packet.{Tbl1Packet}
use Rattle.group.specs.Groups.{asked, heard}
use Rattle.group.specs.declared.memory.Heard.{Heard}
use Rattle.group.specs.declared.memory.Memory.{Memory}

-- a telegram whose packets were read is heard; a packet's fault comes up unchanged
abbrev pub heard_packets : Memory → Header → Result (List Tbl1Packet) PacketFault → Result Heard HeaderFault
heard_packets m h (Ok ps) = Ok (heard m h ps)
heard_packets m h (Err e) = Err (Packet e)

-- the packets are read where the group question lets the header through
abbrev pub heard_header : Memory → List ℕ → Result Header HeaderFault → Result Heard HeaderFault
heard_header m bytes (Ok h) = heard_packets m h (packets_in bytes)
heard_header m bytes (Err e) = Err e

-- the group question is asked of an accepted header
abbrev pub heard_opened : Memory → Result Opened HeaderFault → Result Heard HeaderFault
heard_opened m (Ok o) = heard_header m o.bytes (asked m o.header)
heard_opened m (Err e) = Err e

abbrev pub heard_frame : Memory → Result (List ℕ) FrameFault → ℕ → Result Heard FrameFault
heard_frame m (Ok bytes) plug = of_header (heard_opened m (accepted_of bytes plug))
heard_frame m (Err e) plug = Err e

-- what a telegram leaves, from its bytes, the antenna's word on its CRC and the plug value
abbrev pub received : Memory → List ℕ → Bool → ℕ → Result Heard FrameFault
received m bytes crc plug = heard_frame m (frame_of bytes crc) plug
