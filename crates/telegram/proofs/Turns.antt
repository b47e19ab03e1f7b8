-- The count of packets never cuts a reading short.
use Rattle.std.proofs.Common.{◌≡◌, ℕ, zero, suc, ◌+◌, ◌*◌, ◌<◌, ◌≤◌, cond, eqb, ltb, List, length, Some, None, Ok, Err, Option, Result, sym, refl, ap, suc-add, arith}
use Rattle.std.proofs.lemmas.Bool.{cond_both, cond-true, lt-ltb, ltb-false}
use Rattle.std.proofs.lemmas.Bool.Decides.{nat_tests}
use Rattle.balise.specs.declared.code.Digit.{Digit}
use Rattle.balise.specs.declared.faults.PacketFault.{PacketFault}
use Rattle.balise.specs.declared.faults.PacketFault.TheVariants.{NoEnd}
use Rattle.balise.specs.declared.packet.Direction.{Direction}
use Rattle.balise.specs.declared.packet.Tbl1Packet.{Tbl1Packet}
use Rattle.telegram.specs.Bits.{field}
use Rattle.telegram.specs.Packets.{Lasts, Within, code_packet, directed_packet_in, user_packet_in, packet_in, before, packets_by, packets_from}
use Rattle.telegram.specs.Telegrams.{telegram_bits, EveryPacketRead}
use Rattle.telegram.specs.declared.packet.Found.{Found}
use Rattle.telegram.specs.declared.packet.Found.TheVariants.{End, Other, Tbl1}
use Rattle.telegram.proofs.Packets.{behind_none, packets_over, packets_stop, within_by_length}

code_lasts : (d : Direction) (f s : Option Digit) (at l : ℕ) → l ≡ 48 → Lasts (code_packet d f s at) l
code_lasts d (Some f) (Some s) at l e = sym e
code_lasts d (Some f) None at l e = tt
code_lasts d None s at l e = tt

directed_lasts : (bytes : List ℕ) (place : ℕ) (o : Option Direction) (l at : ℕ) → Lasts (directed_packet_in bytes place o l at) l
directed_lasts bytes place None l at = tt
directed_lasts bytes place (Some d) l at = grind (arith, nat_tests, code_lasts)

user_lasts : (bytes : List ℕ) (place dir l at : ℕ) → Lasts (user_packet_in bytes place dir l at) l
user_lasts bytes place dir l at = grind (arith, nat_tests, directed_lasts)

-- a packet that is found lies within the telegram
packet_within : (bytes : List ℕ) (place at end : ℕ) → Within (packet_in bytes place at end) at end
packet_within bytes place at end =
    let P : Result Found PacketFault → Type 0 = λ r. Within r at end in
    let id = field bytes place 8 in
    let l = field bytes (place + 8 + 2) 13 in
    cond_both (eqb id 255) _ _ P (λ _. tt) (λ _.
    cond_both (ltb end (at + 23)) _ _ P (λ _. tt) (λ _.
    cond_both (ltb l 23) _ _ P (λ _. tt) (λ least.
    cond_both (ltb end (at + l)) _ _ P (λ _. tt) (λ fits.
    cond_both (eqb id 44) _ _ P
    (λ _. within_by_length (user_packet_in bytes (place + 8 + 2 + 13) (field bytes (place + 8) 2) l at) l at end (user_lasts bytes (place + 8 + 2 + 13) (field bytes (place + 8) 2) l at) (ltb-false l 23 least) (ltb-false end (at + l) fits))
    (λ _. (ltb-false l 23 least, ltb-false end (at + l) fits))))))

-- readings that agree behind the packet agree from it on
packets_agree : (r : Result Found PacketFault) (at end : ℕ) (f g : ℕ → Result (List Tbl1Packet) PacketFault) → Within r at end → ((next : ℕ) → at + 23 ≤ next → f next ≡ g next) → packets_by r at f ≡ packets_by r at g
packets_agree (Ok End) at end f g w same = refl
packets_agree (Ok (Other l)) at end f g w same = same (at + l) (omega (arith, w.0))
packets_agree (Ok (Tbl1 p)) at end f g w same = ap (before p) (same (at + 48) (omega arith))
packets_agree (Err e) at end f g w same = refl

no_room : (m : ℕ) (bytes : List ℕ) (at end : ℕ) → end < at → packets_from m bytes at end ≡ Err (NoEnd at)
unfolding packets_from
no_room zero bytes at end h = refl
no_room (suc m) bytes at end h = cond-true _ _ _ (lt-ltb end (at + 8) (omega arith))

-- where n packets of 23 bits have no room, n turns are enough
turns_enough : (n m : ℕ) (bytes : List ℕ) (at end : ℕ) → end < at + 23 * n → packets_from (n + m) bytes at end ≡ packets_from n bytes at end
unfolding packets_from
turns_enough zero m bytes at end h = no_room (0 + m) bytes at end (omega arith)
turns_enough (suc n) m bytes at end h =
    rw suc-add
    (ap (λ (r : Result (List Tbl1Packet) PacketFault). cond (ltb end (at + 8)) (Err (NoEnd at)) r)
    (packets_agree (packet_in bytes at at end) at end (λ next. packets_from (n + m) bytes next end) (λ next. packets_from n bytes next end) (packet_within bytes at at end) (λ next l. turns_enough n m bytes next end (omega arith))))

telegram_short : (n : ℕ) → telegram_bits n ≤ 830
telegram_short n = grind (arith, nat_tests)

pub every_packet_read : (bytes : List ℕ) → EveryPacketRead bytes
every_packet_read bytes more = turns_enough 34 more bytes 50 (telegram_bits (length bytes)) (omega (arith, telegram_short (length bytes)))

-- what the reading of the packets needs, turn by turn
pub ruleset turn_steps = (behind_none, packets_stop, packets_over, every_packet_read)
