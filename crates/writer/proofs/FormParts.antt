-- What an accepted telegram and a TBL1+ packet that was found tell of their fields.
use Rattle.std.proofs.Common.{◌≡◌, ℕ, ◌≤◌, Bool, true, false, cond, eqb, List, length, Some, None, Ok, Err, Option, Result, sym, refl, ap, ◌∙◌, arith}
use Rattle.std.proofs.lemmas.Bool.{cond-true, eq-eqb, eqb-true}
use Rattle.std.proofs.lemmas.Bool.Decides.{nat_tests}
use Rattle.telegram.specs.Bits.{field}
use Rattle.balise.specs.Codes.{digit_of}
use Rattle.telegram.specs.Headers.{header_in, header_asked}
use Rattle.balise.specs.Directions.{direction_of}
use Rattle.telegram.specs.Packets.{code_packet, directed_packet_in, packet_in}
use Rattle.telegram.specs.Telegrams.{Reading, closed_frame, opened, packets_in, reading_with, packets_read, of_header, frame_read, accepted_of, reading_of}
use Rattle.balise.specs.declared.code.Digit.{Digit}
use Rattle.balise.specs.declared.faults.FrameFault.{FrameFault}
use Rattle.balise.specs.declared.faults.FrameFault.TheVariants.{Length, Closing}
use Rattle.balise.specs.declared.faults.HeaderFault.{HeaderFault}
use Rattle.balise.specs.declared.faults.PacketFault.{PacketFault}
use Rattle.balise.specs.declared.header.Header.{Header}
use Rattle.balise.specs.declared.packet.Direction.{Direction}
use Rattle.telegram.specs.declared.packet.Found.{Found}
use Rattle.telegram.specs.declared.packet.Found.TheVariants.{Tbl1}
use Rattle.balise.specs.declared.packet.Tbl1Packet.{Tbl1Packet}

ok_same : {X E : Type 0} {x y : X} → ◌≡◌ {A = Result X E} (Ok x) (Ok y) → x ≡ y
ok_same e = cc

-- an accepted header
pub record Acceptable (plug : ℕ) (h : Header) : Type 0 where
  pub updown : h.updown ≡ 1
  pub version : h.version ≤ plug
  pub media : h.media ≡ 0
  pub more : h.total ≡ 0 → ⊥
  pub within : h.position ≤ h.total

header_parts : (plug : ℕ) (h g : Header) → header_asked plug h ≡ Ok g → Acceptable plug h × (h ≡ g)
header_parts plug h g e = (
  record {
    updown = grind (arith, nat_tests);
    version = grind (arith, nat_tests);
    media = grind (arith, nat_tests);
    more = grind (arith, nat_tests);
    within = grind (arith, nat_tests);
  },
  grind (arith, nat_tests),
)

-- the header of a reading is the one that was accepted
header_of_packets : (h : Header) (ps : Result (List Tbl1Packet) PacketFault) (r : Reading) → of_header (reading_with h ps) ≡ Ok r → h ≡ r.header
header_of_packets h (Ok ps) r e = ap (λ (x : Reading). x.header) (ok_same e)
header_of_packets h (Err f) r e = cc

header_of_reading : (bytes : List ℕ) (h : Result Header HeaderFault) (r : Reading) → of_header (packets_read (opened bytes h)) ≡ Ok r → h ≡ Ok r.header
header_of_reading bytes (Ok h) r e = ap Ok (header_of_packets h (packets_in bytes) r e)
header_of_reading bytes (Err f) r e = cc

frame_of_reading : (bytes : List ℕ) (plug : ℕ) (r : Reading) (closed : Bool) → frame_read (cond closed (Ok bytes) (Err Closing)) plug ≡ Ok r → (closed ≡ true) × (of_header (packets_read (accepted_of bytes plug)) ≡ Ok r)
frame_of_reading bytes plug r true e = (refl, e)
frame_of_reading bytes plug r false e = cc

-- a short telegram that is read has zeros at its end and an accepted header
pub reading_parts : (bytes : List ℕ) (plug : ℕ) (r : Reading) → length bytes ≡ 27 → reading_of bytes true plug ≡ Ok r
    → (field bytes 210 6 ≡ 0) × Acceptable plug (header_in bytes) × (header_in bytes ≡ r.header)
reading_parts bytes plug r size e =
    let frame = cond-true (eqb (length bytes) 27) (closed_frame bytes (field bytes 210 6) true) (cond (eqb (length bytes) 104) (closed_frame bytes (field bytes 830 2) true) (Err Length)) (eq-eqb (length bytes) 27 size) in
    let parts = frame_of_reading bytes plug r (eqb (field bytes 210 6) 0) (sym (ap (λ (f : Result (List ℕ) FrameFault). frame_read f plug) frame) ∙ e) in
    let header = header_parts plug (header_in bytes) r.header (header_of_reading bytes (header_asked plug (header_in bytes)) r parts.1) in
    (eqb-true (field bytes 210 6) 0 parts.0, header.0, header.1)

-- a TBL1+ packet at bit 50
pub record CodeAt (bytes : List ℕ) (p : Tbl1Packet) : Type 0 where
  pub packet : field bytes 50 8 ≡ 44
  pub direction : direction_of (field bytes 58 2) ≡ Some p.direction
  pub size : field bytes 60 13 ≡ 48
  pub user : field bytes 73 9 ≡ 13
  pub first : digit_of (field bytes 82 8) ≡ Some p.code.first
  pub second : digit_of (field bytes 90 8) ≡ Some p.code.second

found_same : (p q : Tbl1Packet) → ◌≡◌ {A = Result Found PacketFault} (Ok (Tbl1 p)) (Ok (Tbl1 q)) → p ≡ q
found_same p q e = cc

code_parts : (d : Direction) (f s : Option Digit) (p : Tbl1Packet) → code_packet d f s 50 ≡ Ok (Tbl1 p) → (d ≡ p.direction) × (f ≡ Some p.code.first) × (s ≡ Some p.code.second)
code_parts d (Some f) (Some s) p e =
    let same = found_same _ p e in
    (ap (λ (q : Tbl1Packet). q.direction) same, ap (λ (q : Tbl1Packet). Some q.code.first) same, ap (λ (q : Tbl1Packet). Some q.code.second) same)
code_parts d (Some f) None p e = cc
code_parts d None s p e = cc

directed_parts : (bytes : List ℕ) (o : Option Direction) (l : ℕ) (p : Tbl1Packet) → directed_packet_in bytes 73 o l 50 ≡ Ok (Tbl1 p)
    → (field bytes 73 9 ≡ 13) × (l ≡ 48) × (o ≡ Some p.direction) × (digit_of (field bytes 82 8) ≡ Some p.code.first) × (digit_of (field bytes 90 8) ≡ Some p.code.second)
directed_parts bytes None l p e = cc
directed_parts bytes (Some d) l p e =
    let user : field bytes 73 9 ≡ 13 = grind (arith, nat_tests) in
    let size : l ≡ 48 = grind (arith, nat_tests) in
    let code : code_packet d (digit_of (field bytes 82 8)) (digit_of (field bytes 90 8)) 50 ≡ Ok (Tbl1 p) = grind (arith, nat_tests) in
    let c = code_parts d (digit_of (field bytes 82 8)) (digit_of (field bytes 90 8)) p code in
    (user, size, ap Some c.0, c.1, c.2)

pub packet_parts : (bytes : List ℕ) (p : Tbl1Packet) → packet_in bytes 50 50 210 ≡ Ok (Tbl1 p) → CodeAt bytes p
packet_parts bytes p e =
    let packet : field bytes 50 8 ≡ 44 = grind (arith, nat_tests) in
    let user : directed_packet_in bytes 73 (direction_of (field bytes 58 2)) (field bytes 60 13) 50 ≡ Ok (Tbl1 p) = grind (arith, nat_tests) in
    let g = directed_parts bytes (direction_of (field bytes 58 2)) (field bytes 60 13) p user in
    record {
      packet = packet;
      direction = g.2;
      size = g.1;
      user = g.0;
      first = g.3;
      second = g.4;
    }
