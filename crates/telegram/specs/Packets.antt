-- The packets of a telegram.
use Rattle.std.specs.Prelude.{◌≡◌, ℕ, zero, suc, ◌+◌, ◌≤◌, cond, List, [], ◌∷◌, Some, None, Ok, Err, Option, Result, ◌==◌, nat_lt}
use Rattle.telegram.specs.Bits.{field}
use Rattle.balise.specs.Codes.{digit_of}
use Rattle.balise.specs.Directions.{direction_of}
use Rattle.balise.specs.declared.code.Digit.{Digit}
use Rattle.balise.specs.declared.faults.PacketFault.{PacketFault}
use Rattle.balise.specs.declared.faults.PacketFault.TheVariants.{NoEnd, PastEnd, TooShort, NoUser, Direction as NoDirection, CodeLength, Digit as NoDigit}
use Rattle.balise.specs.declared.packet.Direction.{Direction}
use Rattle.telegram.specs.declared.packet.Found.{Found}
use Rattle.telegram.specs.declared.packet.Found.TheVariants.{End, Other, Tbl1}
use Rattle.balise.specs.declared.packet.Tbl1Packet.{Tbl1Packet}

-- a TBL1+ packet of a direction and two digits, at the bit `at`; refused where a digit is above ten
abbrev pub code_packet : Direction → Option Digit → Option Digit → ℕ → Result Found PacketFault
code_packet d (Some first) (Some second) at = Ok (Tbl1 (record { direction = d; code = record { first = first; second = second } }))
code_packet d (Some first) None at = Err (NoDigit at)
code_packet d None second at = Err (NoDigit at)

-- packet 44 of a direction and a length, whose NID_XUSER stands at `place`
abbrev pub directed_packet_in : List ℕ → ℕ → Option Direction → ℕ → ℕ → Result Found PacketFault
directed_packet_in bytes place None length at = Err (NoDirection at)
directed_packet_in bytes place (Some d) length at =
    cond (field bytes place 9 == 13) (
    cond (length == 48) (code_packet d (digit_of (field bytes (place + 9) 8)) (digit_of (field bytes (place + 9 + 8) 8)) at)
    (Err (CodeLength at)))
    (Ok (Other length))

-- packet 44 of a Q_DIR and a length, whose NID_XUSER stands at `place`
abbrev pub user_packet_in : List ℕ → ℕ → ℕ → ℕ → ℕ → Result Found PacketFault
user_packet_in bytes place dir length at = cond (nat_lt length 32) (Err (NoUser at)) (directed_packet_in bytes place (direction_of dir) length at)

-- a packet of an identity and a length, which begins at `place` of the bytes and at the bit `at` of a telegram of `end` bits
abbrev pub sized_packet_in : List ℕ → ℕ → ℕ → ℕ → ℕ → ℕ → Result Found PacketFault
sized_packet_in bytes place id length at end =
    cond (nat_lt length 23) (Err (TooShort at)) (
    cond (nat_lt end (at + length)) (Err (PastEnd at)) (
    cond (id == 44) (user_packet_in bytes (place + 8 + 2 + 13) (field bytes (place + 8) 2) length at)
    (Ok (Other length))))

-- the packet that begins at `place` of the bytes and at the bit `at` of a telegram of `end` bits
abbrev pub packet_in : List ℕ → ℕ → ℕ → ℕ → Result Found PacketFault
packet_in bytes place at end =
    cond (field bytes place 8 == 255) (Ok End) (
    cond (nat_lt end (at + 23)) (Err (PastEnd at))
    (sized_packet_in bytes place (field bytes place 8) (field bytes (place + 8 + 2) 13) at end))

-- a packet that was found has this length
abbrev pub Lasts : Result Found PacketFault → ℕ → Type 0
Lasts (Ok End) length = Unit {0}
Lasts (Ok (Other l)) length = l ≡ length
Lasts (Ok (Tbl1 packet)) length = 48 ≡ length
Lasts (Err fault) length = Unit {0}

-- a packet that was found lies within the telegram, and has its 23 fixed bits
abbrev pub Within : Result Found PacketFault → ℕ → ℕ → Type 0
Within (Ok End) at end = Unit {0}
Within (Ok (Other length)) at end = (23 ≤ length) × (at + length ≤ end)
Within (Ok (Tbl1 packet)) at end = at + 48 ≤ end
Within (Err fault) at end = Unit {0}

-- a packet in front of those behind it
abbrev pub before : Tbl1Packet → Result (List Tbl1Packet) PacketFault → Result (List Tbl1Packet) PacketFault
before p (Ok ps) = Ok (p ∷ ps)
before p (Err e) = Err e

-- the TBL1+ packets from the bit `at` on, by what was found there and what `rest` gives from the next packet on
abbrev pub packets_by : Result Found PacketFault → ℕ → (ℕ → Result (List Tbl1Packet) PacketFault) → Result (List Tbl1Packet) PacketFault
packets_by (Ok End) at rest = Ok []
packets_by (Ok (Other length)) at rest = rest (at + length)
packets_by (Ok (Tbl1 p)) at rest = before p (rest (at + 48))
packets_by (Err e) at rest = Err e

-- the TBL1+ packets from the bit `at` on of a telegram of `end` bits, which has at most so many packets from there on
unfoldable pub packets_from : ℕ → List ℕ → ℕ → ℕ → Result (List Tbl1Packet) PacketFault
packets_from zero bytes at end = Err (NoEnd at)
packets_from (suc most) bytes at end =
    cond (nat_lt end (at + 8)) (Err (NoEnd at)) (packets_by (packet_in bytes at at end) at (λ next. packets_from most bytes next end))
