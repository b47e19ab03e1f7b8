-- What is written reads back as written.
use Rattle.std.proofs.Common.{◌≡◌, ℕ, ◌+◌, ◌≤◌, true, List, get_or, Ok, sym, refl, ap, ◌∙◌, arith}
use Rattle.std.proofs.lemmas.Bool.Decides.{nat_tests}
use Rattle.telegram.specs.Bits.{field}
use Rattle.writer.specs.Drafts.{asked}
use Rattle.writer.specs.Layouts.{layout, all_fit, laid_bytes}
use Rattle.writer.specs.declared.draft.Draft.{Draft}
use Rattle.writer.proofs.Cuts.{widths, values, total, cut, cut_values, field_pad}

-- a draft that no question concerns
pub record Askable (d : Draft) : Type 0 where
  pub fit : all_fit (layout d) ≡ true
  pub more : d.total ≡ 0 → ⊥
  pub within : d.position ≤ d.total
  pub directed : d.direction ≡ 3 → ⊥
  pub first_digit : d.first ≤ 10
  pub second_digit : d.second ≤ 10

pub askable : (d : Draft) → asked d ≡ Ok tt → Askable d
unfolding asked
askable d e = record {
  fit = grind (arith, nat_tests);
  more = grind (arith, nat_tests);
  within = grind (arith, nat_tests);
  directed = grind (arith, nat_tests);
  first_digit = grind (arith, nat_tests);
  second_digit = grind (arith, nat_tests);
}

-- the fields of a telegram as a draft gives them
pub record Fields (bytes : List ℕ) (d : Draft) : Type 0 where
  pub updown : field bytes 0 1 ≡ 1
  pub version : field bytes 1 7 ≡ d.version
  pub media : field bytes 8 1 ≡ 0
  pub position : field bytes 9 3 ≡ d.position
  pub total : field bytes 12 3 ≡ d.total
  pub duplicate : field bytes 15 2 ≡ d.duplicate
  pub counter : field bytes 17 8 ≡ d.counter
  pub country : field bytes 25 10 ≡ d.country
  pub group : field bytes 35 14 ≡ d.group
  pub link : field bytes 49 1 ≡ d.link
  pub packet : field bytes 50 8 ≡ 44
  pub direction : field bytes 58 2 ≡ d.direction
  pub size : field bytes 60 13 ≡ 48
  pub user : field bytes 73 9 ≡ 13
  pub first : field bytes 82 8 ≡ d.first
  pub second : field bytes 90 8 ≡ d.second
  pub end : field bytes 98 8 ≡ 255

pub fields_by_cut : (bytes : List ℕ) (d : Draft) → cut bytes 0 (widths (layout d)) ≡ values (layout d) → Fields bytes d
unfolding layout
fields_by_cut bytes d e =
    let at = λ (k : ℕ). ap (λ (xs : List ℕ). get_or xs k 0) e in
    record {
      updown = at 0;
      version = at 1;
      media = at 2;
      position = at 3;
      total = at 4;
      duplicate = at 5;
      counter = at 6;
      country = at 7;
      group = at 8;
      link = at 9;
      packet = at 10;
      direction = at 11;
      size = at 12;
      user = at 13;
      first = at 14;
      second = at 15;
      end = at 16;
    }

pub bits_of_layout : (d : Draft) → total (widths (layout d)) ≡ 106
unfolding layout
bits_of_layout d = refl

-- the telegram of a draft has the draft's fields
pub written_fields : (d : Draft) → Askable d → Fields (laid_bytes (layout d)) d
written_fields d a = fields_by_cut (laid_bytes (layout d)) d (cut_values (layout d) (omega (arith, bits_of_layout d)) a.fit)

-- and its closing bits are zero
pub written_closing : (d : Draft) → field (laid_bytes (layout d)) 210 6 ≡ 0
written_closing d =
    let place : total (widths (layout d)) + 104 ≡ 210 = omega (arith, bits_of_layout d) in
    ap (λ (n : ℕ). field (laid_bytes (layout d)) n 6) (sym place) ∙ field_pad (layout d) 104 6 (omega (arith, bits_of_layout d))
