-- What follows of packets.
use Rattle.std.proofs.Common.{◌≡◌, ℕ, suc, ◌+◌, ◌-◌, ◌*◌, ◌<◌, ◌≤◌, List, [], ◌∷◌, ◌++◌, length, take, drop, Some, None, Ok, Err, Option, Result, sym, refl, ap, ◌∙◌, add_assoc, append_assoc, arith}
use Rattle.std.proofs.lemmas.List.{take_rest}
use Rattle.std.proofs.lemmas.Bool.{cond-true, cond-false, lt-ltb, le-ltb}
use Rattle.telegram.proofs.Fields.{field_drop}
use Rattle.telegram.specs.Packets.{Lasts, Within, directed_packet_in, packet_in, before, packets_by, packets_from}
use Rattle.balise.specs.declared.faults.PacketFault.{PacketFault}
use Rattle.balise.specs.declared.faults.PacketFault.TheVariants.{NoEnd}
use Rattle.telegram.specs.declared.packet.Found.{Found}
use Rattle.telegram.specs.declared.packet.Found.TheVariants.{End, Other, Tbl1}
use Rattle.balise.specs.declared.packet.Direction.{Direction}
use Rattle.balise.specs.declared.packet.Tbl1Packet.{Tbl1Packet}

-- a packet whose length keeps it within the telegram lies within it
pub within_by_length : (r : Result Found PacketFault) (length at end : ℕ) → Lasts r length → 23 ≤ length → at + length ≤ end → Within r at end
within_by_length (Ok End) length at end l s e = tt
within_by_length (Ok (Other n)) length at end l s e = (omega arith, omega arith)
within_by_length (Ok (Tbl1 p)) length at end l s e = omega arith
within_by_length (Err f) length at end l s e = tt

-- packet 44 of the part from byte k on is that of the whole telegram, 8 * k bits further
directed_drop : (bytes : List ℕ) (k place : ℕ) (d : Option Direction) (l at : ℕ) → directed_packet_in (drop k bytes) place d l at ≡ directed_packet_in bytes (8 * k + place) d l at
directed_drop bytes k place None l at = refl
directed_drop bytes k place (Some d) l at = simp (field_drop, add_assoc)

-- a packet of the part `&bytes[k..]` is that packet of the whole telegram
pub packet_part : (bytes part : List ℕ) (k place at end : ℕ) → part ≡ take (length bytes - k) (drop k bytes) → 8 * k + place ≡ at → packet_in part place at end ≡ packet_in bytes at at end
packet_part bytes part k place at end p e = rw (p, take_rest, ← e) (simp (field_drop, directed_drop, add_assoc))

-- packets behind others
abbrev pub behind : List Tbl1Packet → Result (List Tbl1Packet) PacketFault → Result (List Tbl1Packet) PacketFault
behind xs (Ok ps) = Ok (xs ++ ps)
behind xs (Err e) = Err e

pub behind_before : (xs : List Tbl1Packet) (p : Tbl1Packet) (r : Result (List Tbl1Packet) PacketFault) → behind xs (before p r) ≡ behind (xs ++ p ∷ []) r
behind_before xs p (Ok ps) = ap Ok (sym (append_assoc xs (p ∷ []) ps))
behind_before xs p (Err e) = refl

pub behind_none : (r : Result (List Tbl1Packet) PacketFault) → behind [] r ≡ r
behind_none (Ok ps) = refl
behind_none (Err e) = refl

-- where no packet can begin, or the count is used up, the telegram has no end
pub packets_stop : (bytes : List ℕ) (at end n k : ℕ) → k < n → end < at + 8 → packets_from (n - k) bytes at end ≡ Err (NoEnd at)
unfolding packets_from
packets_stop bytes at end n k h e = let m : n - k ≡ suc (n - (k + 1)) = omega arith in rw m (cond-true _ _ _ (lt-ltb end (at + 8) e))

pub packets_over : (bytes : List ℕ) (at end n k : ℕ) → n ≤ k → packets_from (n - k) bytes at end ≡ Err (NoEnd at)
unfolding packets_from
packets_over bytes at end n k h = let m : n - k ≡ 0 = omega arith in rw m refl

-- the packets from a place on, by what was found there
pub packets_found : (bytes : List ℕ) (at end n k : ℕ) (r : Result Found PacketFault) → k < n → at + 8 ≤ end → r ≡ packet_in bytes at at end
    → packets_from (n - k) bytes at end ≡ packets_by r at (λ next. packets_from (n - (k + 1)) bytes next end)
unfolding packets_from
packets_found bytes at end n k r h e f =
    let m : n - k ≡ suc (n - (k + 1)) = omega arith in
    rw m (cond-false _ _ _ (le-ltb end (at + 8) e) ∙ ap (λ x. packets_by x at (λ next. packets_from (n - (k + 1)) bytes next end)) (sym f))

-- one turn of a reading, whose packets so far are xs: what was found decides the whole
pub turn_found : (bytes : List ℕ) (at end n k : ℕ) (xs : List Tbl1Packet) (whole : Result (List Tbl1Packet) PacketFault) (found : Result Found PacketFault)
    → behind xs (packets_from (n - k) bytes at end) ≡ whole
    → k < n
    → at + 8 ≤ end
    → found ≡ packet_in bytes at at end
    → behind xs (packets_by found at (λ next. packets_from (n - (k + 1)) bytes next end)) ≡ whole
turn_found bytes at end n k xs whole found inv h e f = ap (behind xs) (sym (packets_found bytes at end n k found h e f)) ∙ inv
