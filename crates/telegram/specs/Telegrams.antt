-- A telegram from the antenna's bytes to its reading.
use Rattle.std.specs.Prelude.{◌≡◌, ℕ, ◌+◌, Bool, true, false, cond, List, length, Ok, Err, Result, ◌==◌}
use Rattle.telegram.specs.Bits.{field}
use Rattle.telegram.specs.Headers.{header_in, header_asked}
use Rattle.telegram.specs.Lists.{packets_of}
use Rattle.telegram.specs.Packets.{packets_from}
use Rattle.balise.specs.declared.faults.FrameFault.{FrameFault}
use Rattle.balise.specs.declared.faults.FrameFault.TheVariants.{Length, Closing, Crc, Header as header_fault}
use Rattle.balise.specs.declared.faults.HeaderFault.{HeaderFault}
use Rattle.balise.specs.declared.faults.HeaderFault.TheVariants.{Packet as packet_fault}
use Rattle.balise.specs.declared.faults.PacketFault.{PacketFault}
use Rattle.balise.specs.declared.header.Header.{Header}
use Rattle.balise.specs.declared.packet.Tbl1Packet.{Tbl1Packet}
use Rattle.few.specs.declared.Few.{Few}
use Rattle.telegram.specs.declared.frame.Accepted.{Accepted}
use Rattle.telegram.specs.declared.frame.Frame.{Frame}
use Rattle.telegram.specs.declared.reading.Telegram.{Telegram}

-- how many bits of a telegram of so many bytes are not closing bits; a telegram has 27 or 104 bytes
abbrev pub telegram_bits : ℕ → ℕ
telegram_bits n = cond (n == 27) 210 (cond (n == 104) 830 0)

-- the closing bits are zero, and then the antenna's word on the CRC counts
abbrev pub closed_frame : List ℕ → ℕ → Bool → Result (List ℕ) FrameFault
closed_frame bytes closing true = cond (closing == 0) (Ok bytes) (Err Closing)
closed_frame bytes closing false = cond (closing == 0) (Err Crc) (Err Closing)

-- the bytes of a telegram whose length, closing bits and CRC are right
abbrev pub frame_of : List ℕ → Bool → Result (List ℕ) FrameFault
frame_of bytes crc =
    cond (length bytes == 27) (closed_frame bytes (field bytes 210 6) crc) (
    cond (length bytes == 104) (closed_frame bytes (field bytes 830 2) crc)
    (Err Length))

-- a frame, with the bytes in the place of the reference to them
abbrev pub framed : Result Frame FrameFault → Result (List ℕ) FrameFault
framed (Ok f) = Ok f.bytes.now
framed (Err e) = Err e

-- a telegram whose header was accepted: its bytes and its header
pub record Opened : Type 0 where
  pub bytes : List ℕ
  pub header : Header

abbrev pub opened : List ℕ → Result Header HeaderFault → Result Opened HeaderFault
opened bytes (Ok h) = Ok (record { bytes = bytes; header = h })
opened bytes (Err e) = Err e

-- the telegram with the header that stands in it, where no question concerns the header
abbrev pub accepted_of : List ℕ → ℕ → Result Opened HeaderFault
accepted_of bytes plug = opened bytes (header_asked plug (header_in bytes))

abbrev pub accepted : Result Accepted HeaderFault → Result Opened HeaderFault
accepted (Ok a) = Ok (record { bytes = a.frame.bytes.now; header = a.header })
accepted (Err e) = Err e

-- the TBL1+ packets of a telegram, from bit 50 on. Each packet has 23 bits at least, so there are fewer than 34
abbrev pub packets_in : List ℕ → Result (List Tbl1Packet) PacketFault
packets_in bytes = packets_from 34 bytes 50 (telegram_bits (length bytes))

-- the count never cuts a reading short: with more turns the same would be read
abbrev pub EveryPacketRead : List ℕ → Type 0
EveryPacketRead bytes = (more : ℕ) → packets_from (34 + more) bytes 50 (telegram_bits (length bytes)) ≡ packets_in bytes

-- a list of packets as the packets that it holds
abbrev pub listed : Result (Few Tbl1Packet 16) PacketFault → Result (List Tbl1Packet) PacketFault
listed (Ok l) = Ok (packets_of l)
listed (Err e) = Err e

-- what a telegram reads as: its header and its TBL1+ packets in their order
pub record Reading : Type 0 where
  pub header : Header
  pub packets : List Tbl1Packet

abbrev pub reading_with : Header → Result (List Tbl1Packet) PacketFault → Result Reading HeaderFault
reading_with h (Ok ps) = Ok (record { header = h; packets = ps })
reading_with h (Err e) = Err (packet_fault e)

-- a telegram with its header accepted is read packet by packet; a packet's fault comes up unchanged
abbrev pub packets_read : Result Opened HeaderFault → Result Reading HeaderFault
packets_read (Ok o) = reading_with o.header (packets_in o.bytes)
packets_read (Err e) = Err e

-- what a header's reading finds, as the frame gives it
abbrev pub of_header : {X : Type 0} → Result X HeaderFault → Result X FrameFault
of_header (Ok r) = Ok r
of_header (Err e) = Err (header_fault e)

-- a frame is read by its header and then its packets; what they find comes up unchanged
abbrev pub frame_read : Result (List ℕ) FrameFault → ℕ → Result Reading FrameFault
frame_read (Ok bytes) plug = of_header (packets_read (accepted_of bytes plug))
frame_read (Err e) plug = Err e

-- the reading of a telegram: frame, then header, then packets
abbrev pub reading_of : List ℕ → Bool → ℕ → Result Reading FrameFault
reading_of bytes crc plug = frame_read (frame_of bytes crc) plug

-- a telegram as what it reads as
abbrev pub told : {E : Type 0} → Result Telegram E → Result Reading E
told (Ok t) = Ok (record { header = t.header; packets = packets_of t.packets })
told (Err e) = Err e
