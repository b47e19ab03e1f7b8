-- The fields of laid bytes are the values that were laid.
use Rattle.std.proofs.Common.{◌≡◌, ℕ, ◌+◌, ◌-◌, ◌*◌, ◌/◌, ◌%◌, ◌^◌, ◌<◌, ◌≤◌, true, cond, ltb, List, [], ◌∷◌, map, length, refl, ap, ◌∙◌, ap₂, arith}
use Rattle.std.proofs.lemmas.List.FromFn.{get_or-map-range_with_len, length-map-range_with_len}
use Rattle.std.proofs.lemmas.Bool.{and_parts, cond-true, cond-false, lt-ltb, le-ltb, ltb-true}
use Rattle.telegram.specs.Bits.{bit, number, field}
use Rattle.writer.specs.Layouts.{fits, all_fit, laid_bit, laid_bytes}
use Rattle.writer.specs.declared.layout.Field.{Field}
use Rattle.writer.proofs.Laying.{laid_below}
use Rattle.writer.proofs.Numbers.{number_same, number_bit, value_bits}

abbrev pub widths : List Field → List ℕ
widths fs = map (λ (f : Field). f.width) fs

abbrev pub values : List Field → List ℕ
values fs = map (λ (f : Field). f.value) fs

-- how many bits are taken
abbrev pub total : List ℕ → ℕ
total [] = 0
total (w ∷ ws) = w + total ws

-- the numbers of so many bits each, one behind the other from a place on
abbrev pub numbers : (ℕ → ℕ) → ℕ → List ℕ → List ℕ
numbers g at [] = []
numbers g at (w ∷ ws) = number g at w ∷ numbers g (at + w) ws

-- the same of bytes
abbrev pub cut : List ℕ → ℕ → List ℕ → List ℕ
cut bytes at [] = []
cut bytes at (w ∷ ws) = field bytes at w ∷ cut bytes (at + w) ws

-- a bit of the first field, and one behind it
laid_in : (f : Field) (fs : List Field) (i : ℕ) → i < f.width → laid_bit (f ∷ fs) i ≡ f.value / 2 ^ (f.width - 1 - i) % 2
laid_in f fs i h = cond-true _ _ _ (lt-ltb i f.width h)

laid_skip : (f : Field) (fs : List Field) (i : ℕ) → laid_bit (f ∷ fs) (f.width + i) ≡ laid_bit fs i
laid_skip f fs i =
    let less : f.width + i - f.width ≡ i = omega arith in
    cond-false _ _ _ (le-ltb (f.width + i) f.width (omega arith)) ∙ ap (laid_bit fs) less

-- behind all fields
pub laid_pad : (fs : List Field) (i : ℕ) → laid_bit fs (total (widths fs) + i) ≡ cond (ltb i 104) 1 0
laid_pad [] i = let same : 0 + i ≡ i = omega arith in ap (laid_bit []) same
laid_pad (f ∷ fs) i =
    let apart : f.width + total (widths fs) + i ≡ f.width + (total (widths fs) + i) = omega arith in
    ap (laid_bit (f ∷ fs)) apart ∙ laid_skip f fs (total (widths fs) + i) ∙ laid_pad fs i

-- the numbers at the places of the fields are the fields' values
pub numbers_laid : (fs : List Field) (g : ℕ → ℕ) (at : ℕ) → ((i : ℕ) → g (at + i) ≡ laid_bit fs i) → all_fit fs ≡ true → numbers g at (widths fs) ≡ values fs
numbers_laid [] g at same fit = refl
numbers_laid (f ∷ fs) g at same fit =
    let parts = and_parts (fits f) (all_fit fs) fit in
    let w = f.width in
    let whole : w - w ≡ 0 = omega arith in
    let alone = value_bits f.value w w (ltb-true f.value (2 ^ w) parts.0) (omega arith) in
    let first = number_same g (λ i. f.value / 2 ^ (w - 1 - i) % 2) at 0 w (λ i h. same i ∙ laid_in f fs i h ∙ ap (λ (n : ℕ). f.value / 2 ^ (w - 1 - n) % 2) (zero_first i)) in
    let one : f.value / 2 ^ (w - w) ≡ f.value = rw whole (omega arith) in
    ap₂ (λ (x : ℕ) (xs : List ℕ). x ∷ xs) (first ∙ alone ∙ one) (numbers_laid fs g (at + w) (λ i. ap g (behind w i) ∙ same (w + i) ∙ laid_skip f fs i) parts.1)
  where
    zero_first : (i : ℕ) → i ≡ 0 + i
    zero_first i = omega arith

    behind : (w i : ℕ) → at + w + i ≡ at + (w + i)
    behind w i = omega arith

-- a bit of laid bytes is the bit that was laid
pub bit_laid : (fs : List Field) (i : ℕ) → i < 216 → bit (laid_bytes fs) i ≡ laid_bit fs i
unfolding laid_bytes
bit_laid fs i h =
    let at : 8 * (i / 8) + i % 8 ≡ i = omega arith in
    let byte = get_or-map-range_with_len (λ k. number (laid_bit fs) (8 * k) 8) 0 27 (i / 8) (i / 8) 0 (omega arith) (omega arith) in
    ap (λ (n : ℕ). n / 2 ^ (7 - i % 8) % 2) byte ∙ number_bit (laid_bit fs) (laid_below fs) (8 * (i / 8)) 8 (i % 8) (omega arith) ∙ ap (laid_bit fs) at

pub field_laid : (fs : List Field) (at w : ℕ) → at + w ≤ 216 → field (laid_bytes fs) at w ≡ number (laid_bit fs) at w
unfolding field
field_laid fs at w h = number_same (bit (laid_bytes fs)) (laid_bit fs) at at w (λ i l. bit_laid fs (at + i) (omega arith))

pub cut_laid : (fs : List Field) (at : ℕ) (ws : List ℕ) → at + total ws ≤ 216 → cut (laid_bytes fs) at ws ≡ numbers (laid_bit fs) at ws
cut_laid fs at [] h = refl
cut_laid fs at (w ∷ ws) h = ap₂ (λ (x : ℕ) (xs : List ℕ). x ∷ xs) (field_laid fs at w (omega arith)) (cut_laid fs (at + w) ws (omega arith))

-- what is cut from laid bytes by the fields' widths is the fields' values
pub cut_values : (fs : List Field) → total (widths fs) ≤ 216 → all_fit fs ≡ true → cut (laid_bytes fs) 0 (widths fs) ≡ values fs
cut_values fs h fit = cut_laid fs 0 (widths fs) (omega arith) ∙ numbers_laid fs (laid_bit fs) 0 (λ i. ap (laid_bit fs) (first i)) fit
  where
    first : (i : ℕ) → 0 + i ≡ i
    first i = omega arith

-- a field behind all fields
pub field_pad : (fs : List Field) (at w : ℕ) → total (widths fs) + at + w ≤ 216 → field (laid_bytes fs) (total (widths fs) + at) w ≡ number (λ i. cond (ltb i 104) 1 0) at w
field_pad fs at w h =
    field_laid fs (total (widths fs) + at) w h
    ∙ number_same (laid_bit fs) (λ i. cond (ltb i 104) 1 0) (total (widths fs) + at) at w (λ i l. ap (laid_bit fs) (behind i) ∙ laid_pad fs (at + i))
  where
    behind : (i : ℕ) → total (widths fs) + at + i ≡ total (widths fs) + (at + i)
    behind i = omega arith

pub length_laid : (fs : List Field) → length (laid_bytes fs) ≡ 27
unfolding laid_bytes
length_laid fs = length-map-range_with_len (λ k. number (laid_bit fs) (8 * k) 8) 0 27
