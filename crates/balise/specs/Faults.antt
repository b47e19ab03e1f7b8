-- Reason, place and layer of each fault of a telegram.
use Rattle.refusal.specs.declared.layer.Layer.TheVariants.{Frame as in_frame, Header as in_header, Packet as in_packet}
use Rattle.refusal.specs.declared.reason.Reason.TheVariants as reason
use Rattle.refusal.specs.declared.Refusal.{Refusal}
use Rattle.refusal.specs.Refusals.{refused}
use Rattle.balise.specs.declared.faults.FrameFault.{FrameFault}
use Rattle.balise.specs.declared.faults.FrameFault.TheVariants.{Length, Closing, Crc, Header}
use Rattle.balise.specs.declared.faults.HeaderFault.{HeaderFault}
use Rattle.balise.specs.declared.faults.HeaderFault.TheVariants.{Updown, Version, Media, NoTotal, Position, OtherTotal, Packet}
use Rattle.balise.specs.declared.faults.PacketFault.{PacketFault}
use Rattle.balise.specs.declared.faults.PacketFault.TheVariants.{NoEnd, PastEnd, TooShort, NoUser, Direction, CodeLength, Digit}

-- the place of a packet's fault is the packet's first bit
abbrev pub packet_refusal : PacketFault → Refusal
packet_refusal (NoEnd at) = refused reason.Bounds at in_packet
packet_refusal (PastEnd at) = refused reason.Bounds at in_packet
packet_refusal (TooShort at) = refused reason.Bounds at in_packet
packet_refusal (NoUser at) = refused reason.Packet at in_packet
packet_refusal (Direction at) = refused reason.Packet at in_packet
packet_refusal (CodeLength at) = refused reason.Packet at in_packet
packet_refusal (Digit at) = refused reason.Packet at in_packet

-- the place of a header's fault is the first bit of the field that is wrong; a packet's fault is unchanged
abbrev pub header_refusal : HeaderFault → Refusal
header_refusal Updown = refused reason.Header 0 in_header
header_refusal Version = refused reason.Header 1 in_header
header_refusal Media = refused reason.Header 8 in_header
header_refusal NoTotal = refused reason.Position 12 in_header
header_refusal Position = refused reason.Position 9 in_header
header_refusal OtherTotal = refused reason.OtherTotal 12 in_header
header_refusal (Packet fault) = packet_refusal fault

-- a fault of the frame has no place; a header's or a packet's fault is unchanged
abbrev pub frame_refusal : FrameFault → Refusal
frame_refusal Length = refused reason.Frame 0 in_frame
frame_refusal Closing = refused reason.Frame 0 in_frame
frame_refusal Crc = refused reason.Crc 0 in_frame
frame_refusal (Header fault) = header_refusal fault
