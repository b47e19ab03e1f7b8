-- A telegram of the writer's form is what the writer writes for its reading.
use Rattle.std.proofs.Common.{◌≡◌, ℕ, ◌+◌, ◌-◌, ◌^◌, ◌<◌, ◌≤◌, true, cond, ltb, List, Ok, sym, refl, ap, ◌∙◌, ⊎_elim, arith}
use Rattle.std.proofs.lemmas.Bool.{cases_lt, cond-true, cond-false, lt-ltb, le-ltb}
use Rattle.std.proofs.lemmas.Bool.Decides.{nat_tests}
use Rattle.telegram.proofs.Fields.{bit_below}
use Rattle.telegram.specs.Bits.{bit, field}
use Rattle.balise.specs.Codes.{digits, value_of}
use Rattle.telegram.specs.Headers.{header_in}
use Rattle.balise.specs.Directions.{directions, direction_value}
use Rattle.balise.specs.declared.code.Digit.TheVariants.{Zero}
use Rattle.balise.specs.declared.header.Header.{Header}
use Rattle.balise.specs.declared.packet.Direction.TheVariants.{Reverse}
use Rattle.balise.specs.declared.packet.Tbl1Packet.{Tbl1Packet}
use Rattle.writer.specs.Drafts.{asked}
use Rattle.writer.specs.Layouts.{layout, all_fit, laid_bit}
use Rattle.writer.specs.RoundTrip.{draft_of, WritesBack}
use Rattle.writer.specs.declared.draft.Draft.{Draft}
use Rattle.writer.proofs.Cuts.{widths, values, total, cut, laid_pad}
use Rattle.writer.proofs.FormParts.{Acceptable, CodeAt, reading_parts, packet_parts}
use Rattle.writer.proofs.Numbers.{number_same}
use Rattle.writer.proofs.ReadingBack.{Fields, bits_of_layout}
use Rattle.writer.proofs.Relaying.{cut_numbers, laid_again, fit_again, bit_by_field, bytes_again}
use Rattle.writer.proofs.Tables.{named}

-- the fields of a telegram of the writer's form are those of its reading's draft
form_fields : (bytes : List ℕ) (plug : ℕ) (h : Header) (p : Tbl1Packet) → Acceptable plug (header_in bytes) → header_in bytes ≡ h → CodeAt bytes p → field bytes 98 8 ≡ 255 → Fields bytes (draft_of h p)
form_fields bytes plug h p a same c end = record {
  updown = a.updown;
  version = ap (λ (g : Header). g.version) same;
  media = a.media;
  position = ap (λ (g : Header). g.position) same;
  total = ap (λ (g : Header). g.total) same;
  duplicate = ap (λ (g : Header). g.duplicate) same;
  counter = ap (λ (g : Header). g.counter) same;
  country = ap (λ (g : Header). g.country) same;
  group = ap (λ (g : Header). g.group) same;
  link = ap (λ (g : Header). g.link) same;
  packet = c.packet;
  direction = sym (named direction_value Reverse directions refl (field bytes 58 2) p.direction c.direction).0;
  size = c.size;
  user = c.user;
  first = sym (named value_of Zero digits refl (field bytes 82 8) p.code.first c.first).0;
  second = sym (named value_of Zero digits refl (field bytes 90 8) p.code.second c.second).0;
  end = end;
}

-- the fields in the order of the layout
fields_cut : (bytes : List ℕ) (d : Draft) → Fields bytes d → values (layout d) ≡ cut bytes 0 (widths (layout d))
unfolding layout
fields_cut bytes d f = cc

-- ones up to bit 209, and then zeros
padding : (bytes : List ℕ) → field bytes 98 112 ≡ 2 ^ 112 - 1 → field bytes 210 6 ≡ 0 → (j : ℕ) → j < 110 → cond (ltb j 104) 1 0 ≡ bit bytes (106 + j)
padding bytes ones zeros j h =
    ⊎_elim
    (λ (l : j < 104). cond-true _ _ _ (lt-ltb j 104 l) ∙ sym (bit_by_field bytes (λ _. 1) (λ _. omega arith) 98 112 (8 + j) ones (omega arith)) ∙ ap (bit bytes) (before j))
    (λ (l : 104 ≤ j). cond-false _ _ _ (le-ltb j 104 l) ∙ sym (bit_by_field bytes (λ _. 0) (λ _. omega arith) 210 6 (j - 104) zeros (omega arith)) ∙ ap (bit bytes) (behind j l))
    (cases_lt j 104)
  where
    before : (i : ℕ) → 98 + (8 + i) ≡ 106 + i
    before i = omega arith

    behind : (i : ℕ) → 104 ≤ i → 210 + (i - 104) ≡ 106 + i
    behind i l = omega arith

-- the end packet is the first eight of the ones
end_of_ones : (bytes : List ℕ) → field bytes 98 112 ≡ 2 ^ 112 - 1 → field bytes 98 8 ≡ 255
unfolding field
end_of_ones bytes ones = number_same (bit bytes) (λ _. 1) 98 0 8 (λ i h. bit_by_field bytes (λ _. 1) (λ _. omega arith) 98 112 i ones (omega arith))

laid_form : (bytes : List ℕ) (d : Draft) → Fields bytes d → field bytes 98 112 ≡ 2 ^ 112 - 1 → field bytes 210 6 ≡ 0 → (i : ℕ) → i < 216 → laid_bit (layout d) i ≡ bit bytes i
laid_form bytes d f ones zeros i h =
    let same = fields_cut bytes d f ∙ cut_numbers bytes 0 (widths (layout d)) in
    let bits = bits_of_layout d in
    ⊎_elim
    (λ (l : i < 106). laid_again (layout d) (bit bytes) (bit_below bytes) 0 same i (omega arith) ∙ ap (bit bytes) (first i))
    (λ (l : 106 ≤ i). ap (laid_bit (layout d)) (apart i (total (widths (layout d))) bits l) ∙ laid_pad (layout d) (i - 106) ∙ padding bytes ones zeros (i - 106) (omega arith) ∙ ap (bit bytes) (together i l))
    (cases_lt i 106)
  where
    first : (n : ℕ) → 0 + n ≡ n
    first n = omega arith

    apart : (n t : ℕ) → t ≡ 106 → 106 ≤ n → n ≡ t + (n - 106)
    apart n t e l = omega arith

    together : (n : ℕ) → 106 ≤ n → 106 + (n - 106) ≡ n
    together n l = omega arith

-- no question concerns the draft of an accepted telegram
form_asked : (bytes : List ℕ) (plug : ℕ) (h : Header) (p : Tbl1Packet) → Acceptable plug (header_in bytes) → header_in bytes ≡ h → CodeAt bytes p → all_fit (layout (draft_of h p)) ≡ true → asked (draft_of h p) ≡ Ok tt
unfolding asked
form_asked bytes plug h p a same c fit =
    let more : h.total ≡ 0 → ⊥ = λ e. a.more (ap (λ (g : Header). g.total) same ∙ e) in
    let totals = ap (λ (g : Header). g.total) same in
    let positions = ap (λ (g : Header). g.position) same in
    let direction = named direction_value Reverse directions refl (field bytes 58 2) p.direction c.direction in
    let first = named value_of Zero digits refl (field bytes 82 8) p.code.first c.first in
    let second = named value_of Zero digits refl (field bytes 90 8) p.code.second c.second in
    grind (arith, nat_tests)

pub writes_back : WritesBack
writes_back bytes plug r p o =
    let parts = reading_parts bytes plug r o.size o.reads in
    let code = packet_parts bytes p o.first in
    let f = form_fields bytes plug r.header p parts.1 parts.2 code (end_of_ones bytes o.ones) in
    let d = draft_of r.header p in
    let same = fields_cut bytes d f ∙ cut_numbers bytes 0 (widths (layout d)) in (
      form_asked bytes plug r.header p parts.1 parts.2 code (fit_again (layout d) (bit bytes) (bit_below bytes) 0 same),
      bytes_again (layout d) bytes o.size o.small (laid_form bytes d f o.ones parts.0),
    )
