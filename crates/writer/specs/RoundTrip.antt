-- Writing and reading undo each other.
use Rattle.std.specs.Prelude.{◌≡◌, ℕ, ◌-◌, ◌^◌, ◌<◌, ◌≤◌, true, List, [], ◌∷◌, ◌++◌, length, take, replicate, Ok, Result, slice_index, slice_index_or}
use Rattle.telegram.specs.Bits.{field}
use Rattle.balise.specs.Codes.{digits, value_of}
use Rattle.balise.specs.Directions.{directions, direction_value}
use Rattle.telegram.specs.Packets.{packet_in}
use Rattle.telegram.specs.Telegrams.{Reading, reading_of}
use Rattle.balise.specs.declared.code.Digit.TheVariants.{Zero}
use Rattle.balise.specs.declared.header.Header.{Header}
use Rattle.balise.specs.declared.packet.Direction.TheVariants.{Reverse}
use Rattle.telegram.specs.declared.packet.Found.TheVariants.{Tbl1}
use Rattle.balise.specs.declared.packet.Tbl1Packet.{Tbl1Packet}
use Rattle.writer.specs.Drafts.{asked}
use Rattle.writer.specs.Writing.{written}
use Rattle.writer.specs.declared.draft.Draft.{Draft}
use Rattle.writer.specs.declared.faults.WriteFault.{WriteFault}

-- the header of a draft
abbrev pub draft_header : Draft → Header
draft_header d = record {
  updown = 1;
  version = d.version;
  media = 0;
  position = d.position;
  total = d.total;
  duplicate = d.duplicate;
  counter = d.counter;
  country = d.country;
  group = d.group;
  link = d.link;
}

-- the packet of a draft, whose direction and digits are named by their values
abbrev pub draft_packet : Draft → Tbl1Packet
draft_packet d = record {
  direction = slice_index_or directions d.direction Reverse;
  code = record { first = slice_index_or digits d.first Zero; second = slice_index_or digits d.second Zero };
}

-- the reading of a draft
abbrev pub draft_reading : Draft → Reading
draft_reading d = record { header = draft_header d; packets = draft_packet d ∷ [] }

-- what the writer accepted stands in the first 27 bytes of the buffer and reads back as the draft, under every plug value from its version up
abbrev pub ReadsBack : Result (Unit {0}) WriteFault → Draft → List ℕ → Type 0
ReadsBack answer d buffer = answer ≡ Ok tt → (plug : ℕ) → d.version ≤ plug → reading_of (take 27 buffer) true plug ≡ Ok (draft_reading d)

-- the draft of a header and a packet
abbrev pub draft_of : Header → Tbl1Packet → Draft
draft_of h p = record {
  version = h.version;
  position = h.position;
  total = h.total;
  duplicate = h.duplicate;
  counter = h.counter;
  country = h.country;
  group = h.group;
  link = h.link;
  direction = direction_value p.direction;
  first = value_of p.code.first;
  second = value_of p.code.second;
}

-- a telegram of the writer's form: 27 bytes that read as r, whose first packet is the TBL1+ packet p, and that have ones only from bit 98 to bit 209
pub record OfWritersForm (bytes : List ℕ) (plug : ℕ) (r : Reading) (p : Tbl1Packet) : Type 0 where
  pub size : length bytes ≡ 27
  pub small : (i : ℕ) → slice_index bytes i < 256
  pub reads : reading_of bytes true plug ≡ Ok r
  pub first : packet_in bytes 50 50 210 ≡ Ok (Tbl1 p)
  pub ones : field bytes 98 112 ≡ 2 ^ 112 - 1

-- a telegram of the writer's form is what the writer writes for its reading
abbrev pub WritesBack : Type 0
WritesBack =
    (bytes : List ℕ) (plug : ℕ) (r : Reading) (p : Tbl1Packet)
    → OfWritersForm bytes plug r p
    → (asked (draft_of r.header p) ≡ Ok tt) × (written (draft_of r.header p) ≡ bytes)

-- the telegram of version 16, position 0, total 1, duplicate 0, counter 255, country 1, group 5, link 0, direction 1, code 22
abbrev pub worked_bytes : List ℕ
worked_bytes =
    0x90 ∷ (0x02 ∷ (0x7F ∷ (0x80 ∷ (0x20 ∷ (0x02 ∷ (0x8B ∷ (0x10 ∷ (0x18 ∷ (0x03 ∷ (0x40 ∷ (0x80 ∷ (0xBF ∷ (replicate 13 0xFF ++ (0xC0 ∷ []))))))))))))))
