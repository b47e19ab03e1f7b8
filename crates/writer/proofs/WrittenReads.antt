-- The telegram of a draft is accepted and reads as the draft.
use Rattle.std.proofs.Common.{◌≡◌, ℕ, ◌^◌, ◌<◌, ◌≤◌, true, List, [], ◌∷◌, ◌++◌, length, Some, Ok, Option, Result, sym, ap, ◌∙◌, ap₂, arith}
use Rattle.std.proofs.lemmas.List.{take_at}
use Rattle.std.proofs.lemmas.Option.{slice_get-get_or}
use Rattle.std.proofs.lemmas.Bool.{cond-true, eq-eqb}
use Rattle.std.proofs.lemmas.Bool.Decides.{nat_tests}
use Rattle.telegram.specs.Bits.{field}
use Rattle.balise.specs.Codes.{digits, digit_of}
use Rattle.telegram.specs.Headers.{header_in, header_asked}
use Rattle.balise.specs.Directions.{directions, direction_of}
use Rattle.telegram.specs.Packets.{code_packet, directed_packet_in, user_packet_in, packet_in, before, packets_from}
use Rattle.telegram.specs.Telegrams.{telegram_bits, frame_of, opened, packets_in, reading_with, packets_read, of_header, frame_read, reading_of}
use Rattle.balise.specs.declared.code.Digit.{Digit}
use Rattle.balise.specs.declared.code.Digit.TheVariants.{Zero}
use Rattle.balise.specs.declared.faults.FrameFault.{FrameFault}
use Rattle.balise.specs.declared.faults.HeaderFault.{HeaderFault}
use Rattle.balise.specs.declared.faults.PacketFault.{PacketFault}
use Rattle.balise.specs.declared.header.Header.{Header}
use Rattle.balise.specs.declared.packet.Direction.{Direction}
use Rattle.balise.specs.declared.packet.Direction.TheVariants.{Reverse}
use Rattle.telegram.specs.declared.packet.Found.{Found}
use Rattle.telegram.specs.declared.packet.Found.TheVariants.{End, Tbl1}
use Rattle.balise.specs.declared.packet.Tbl1Packet.{Tbl1Packet}
use Rattle.telegram.proofs.Fields.{field_below}
use Rattle.telegram.proofs.Packets.{packets_found}
use Rattle.writer.specs.Drafts.{asked}
use Rattle.writer.specs.Layouts.{layout}
use Rattle.writer.specs.RoundTrip.{draft_header, draft_packet, draft_reading, ReadsBack}
use Rattle.writer.specs.Writing.{written}
use Rattle.writer.specs.declared.draft.Draft.{Draft}
use Rattle.writer.proofs.Cuts.{length_laid}
use Rattle.writer.proofs.ReadingBack.{Askable, askable, Fields, written_fields, written_closing}

header_same : (bytes : List ℕ) (d : Draft) → Fields bytes d → header_in bytes ≡ draft_header d
header_same bytes d f = cc

header_accepted : (d : Draft) (plug : ℕ) → Askable d → d.version ≤ plug → header_asked plug (draft_header d) ≡ Ok (draft_header d)
header_accepted d plug a h = grind (arith, nat_tests)

-- a TBL1+ packet of 48 bits with this direction and these digits
code_found : (bytes : List ℕ) (dir first second : ℕ) (D : Direction) (F S : Digit)
    → direction_of dir ≡ Some D
    → field bytes 73 9 ≡ 13
    → digit_of (field bytes 82 8) ≡ Some F
    → digit_of (field bytes 90 8) ≡ Some S
    → user_packet_in bytes 73 dir 48 50 ≡ Ok (Tbl1 (record { direction = D; code = record { first = F; second = S } }))
code_found bytes dir first second D F S d u f s =
    ap (λ (o : Option Direction). directed_packet_in bytes 73 o 48 50) d
    ∙ cond-true _ _ _ (eq-eqb (field bytes 73 9) 13 u)
    ∙ ap₂ (λ (o p : Option Digit). code_packet D o p 50) f s

-- packet 44 of 48 bits is what its user's part reads as
packet_44 : (bytes : List ℕ) (found : Result Found PacketFault) → field bytes 50 8 ≡ 44 → field bytes 60 13 ≡ 48 → user_packet_in bytes 73 (field bytes 58 2) 48 50 ≡ found → packet_in bytes 50 50 210 ≡ found
packet_44 bytes found packet size user = grind (arith, nat_tests)

packet_same : (bytes : List ℕ) (d : Draft) → Askable d → Fields bytes d → packet_in bytes 50 50 210 ≡ Ok (Tbl1 (draft_packet d))
packet_same bytes d a f =
    let direction = slice_get-get_or directions d.direction Reverse (below_3 d.direction (field bytes 58 2) (field_below bytes 58 2) f.direction a.directed) in
    let first = ap digit_of f.first ∙ slice_get-get_or digits d.first Zero (below_11 d.first a.first_digit) in
    let second = ap digit_of f.second ∙ slice_get-get_or digits d.second Zero (below_11 d.second a.second_digit) in
    packet_44 bytes _ f.packet f.size (code_found bytes (field bytes 58 2) d.first d.second _ _ _ (ap direction_of f.direction ∙ direction) f.user first second)
  where
    below_3 : (n m : ℕ) → m < 2 ^ 2 → m ≡ n → (n ≡ 3 → ⊥) → n < 3
    below_3 n m l e ne = omega arith

    below_11 : (n : ℕ) → n ≤ 10 → n < 11
    below_11 n l = omega arith

packets_same : (bytes : List ℕ) (p : Tbl1Packet) → length bytes ≡ 27 → packet_in bytes 50 50 210 ≡ Ok (Tbl1 p) → field bytes 98 8 ≡ 255 → packets_in bytes ≡ Ok (p ∷ [])
packets_same bytes p size first end =
    ap (λ (n : ℕ). packets_from 34 bytes 50 (telegram_bits n)) size
    ∙ packets_found bytes 50 210 34 0 (Ok (Tbl1 p)) (omega arith) (omega arith) (sym first)
    ∙ ap (before p) (packets_found bytes 98 210 33 0 (Ok End) (omega arith) (omega arith) (sym (cond-true _ _ _ (eq-eqb (field bytes 98 8) 255 end))))

frame_same : (bytes : List ℕ) → length bytes ≡ 27 → field bytes 210 6 ≡ 0 → frame_of bytes true ≡ Ok bytes
frame_same bytes size closing = grind (arith, nat_tests)

-- a frame whose header and packets are these reads as them
pub reading_by : (bytes : List ℕ) (plug : ℕ) (h : Header) (ps : List Tbl1Packet) → frame_of bytes true ≡ Ok bytes → header_asked plug (header_in bytes) ≡ Ok h → packets_in bytes ≡ Ok ps → reading_of bytes true plug ≡ Ok (record { header = h; packets = ps })
reading_by bytes plug h ps frame header packets =
    ap (λ (f : Result (List ℕ) FrameFault). frame_read f plug) frame
    ∙ ap (λ (r : Result Header HeaderFault). of_header (packets_read (opened bytes r))) header
    ∙ ap (λ (r : Result (List Tbl1Packet) PacketFault). of_header (reading_with h r)) packets

written_reads : (d : Draft) → asked d ≡ Ok tt → (plug : ℕ) → d.version ≤ plug → reading_of (written d) true plug ≡ Ok (draft_reading d)
written_reads d e plug h =
    let a = askable d e in
    let bytes = written d in
    let f = written_fields d a in
    let size = length_laid (layout d) in
    reading_by bytes plug (draft_header d) (draft_packet d ∷ []) (frame_same bytes size (written_closing d)) (ap (header_asked plug) (header_same bytes d f) ∙ header_accepted d plug a h) (packets_same bytes (draft_packet d) size (packet_same bytes d a f) f.end)

-- what the writer accepted reads back from a buffer that begins with it
pub reads_back : (d : Draft) (rest : List ℕ) → asked d ≡ Ok tt → ReadsBack (Ok tt) d (written d ++ rest)
reads_back d rest asks e plug h =
    ap (λ (b : List ℕ). reading_of b true plug) (take_at (written d) rest 27 (length_laid (layout d))) ∙ written_reads d asks plug h
