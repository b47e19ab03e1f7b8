-- Bits that are cut into fields and laid again are the same bits.
use Rattle.std.proofs.Common.{◌≡◌, ℕ, ◌+◌, ◌-◌, ◌*◌, ◌/◌, ◌%◌, ◌^◌, ◌<◌, ◌≤◌, true, List, [], ◌∷◌, length, get_or, sym, refl, ap, ◌∙◌, ap₂, ⊎_elim, arith}
use Rattle.std.proofs.lemmas.List.FromFn.{fill_by_all}
use Rattle.std.proofs.lemmas.Bool.{and_from, cases_lt, cond-true, cond-false, lt-ltb, le-ltb}
use Rattle.telegram.proofs.Fields.{bit_below, number_below}
use Rattle.telegram.specs.Bits.{bit, number, field}
use Rattle.writer.specs.Layouts.{fits, all_fit, laid_bit, laid_bytes}
use Rattle.writer.specs.declared.layout.Field.{Field}
use Rattle.writer.proofs.Cuts.{widths, values, total, numbers, cut}
use Rattle.writer.proofs.Numbers.{number_same, number_bit, value_bits}

heads : {A : Type 0} {x y : A} {xs ys : List A} → x ∷ xs ≡ y ∷ ys → (x ≡ y) × (xs ≡ ys)
heads e = (cc, cc)

pub cut_numbers : (bytes : List ℕ) (at : ℕ) (ws : List ℕ) → cut bytes at ws ≡ numbers (bit bytes) at ws
unfolding field
cut_numbers bytes at [] = refl
cut_numbers bytes at (w ∷ ws) = ap (λ (xs : List ℕ). number (bit bytes) at w ∷ xs) (cut_numbers bytes (at + w) ws)

-- fields whose values were cut from bits lie as these bits lay
pub laid_again : (fs : List Field) (g : ℕ → ℕ) → ((i : ℕ) → g i < 2) → (at : ℕ) → values fs ≡ numbers g at (widths fs) → (i : ℕ) → i < total (widths fs) → laid_bit fs i ≡ g (at + i)
laid_again [] g small at same i h = absurd (omega arith)
laid_again (f ∷ fs) g small at same i h =
    let w = f.width in
    let parts = heads same in
    ⊎_elim
    (λ (l : i < w). cond-true _ _ _ (lt-ltb i w l) ∙ ap (λ (v : ℕ). v / 2 ^ (w - 1 - i) % 2) parts.0 ∙ number_bit g small at w i l)
    (λ (l : w ≤ i). cond-false _ _ _ (le-ltb i w l) ∙ laid_again fs g small (at + w) parts.1 (i - w) (omega arith) ∙ ap g (together w i l))
    (cases_lt i w)
  where
    together : (w i : ℕ) → w ≤ i → at + w + (i - w) ≡ at + i
    together w i l = omega arith

-- and fit
pub fit_again : (fs : List Field) (g : ℕ → ℕ) → ((i : ℕ) → g i < 2) → (at : ℕ) → values fs ≡ numbers g at (widths fs) → all_fit fs ≡ true
fit_again [] g small at same = refl
fit_again (f ∷ fs) g small at same =
    let parts = heads same in
    let less = number_below g small at f.width in
    and_from (fits f) (all_fit fs) (lt-ltb f.value (2 ^ f.width) (omega (arith, parts.0))) (fit_again fs g small (at + f.width) parts.1)

-- equal fields have equal bits
pub bit_by_field : (bytes : List ℕ) (g : ℕ → ℕ) → ((i : ℕ) → g i < 2) → (at w j : ℕ) → field bytes at w ≡ number g 0 w → j < w → bit bytes (at + j) ≡ g (0 + j)
unfolding field
bit_by_field bytes g small at w j same h =
    sym (number_bit (bit bytes) (bit_below bytes) at w j h) ∙ ap (λ (n : ℕ). n / 2 ^ (w - 1 - j) % 2) same ∙ number_bit g small 0 w j h

-- a byte is the number of its eight bits
byte_again : (bytes : List ℕ) (k : ℕ) → get_or bytes k 0 < 256 → number (bit bytes) (8 * k) 8 ≡ get_or bytes k 0
byte_again bytes k h =
    number_same (bit bytes) (λ i. get_or bytes k 0 / 2 ^ (8 - 1 - i) % 2) (8 * k) 0 8 here ∙ value_bits (get_or bytes k 0) 8 8 h (omega arith) ∙ whole (get_or bytes k 0)
  where
    here : (i : ℕ) → i < 8 → bit bytes (8 * k + i) ≡ get_or bytes k 0 / 2 ^ (8 - 1 - (0 + i)) % 2
    here i l =
        let q : (8 * k + i) / 8 ≡ k = omega arith in
        let m : 7 - (8 * k + i) % 8 ≡ 8 - 1 - (0 + i) = omega arith in
        ap₂ (λ (n e : ℕ). get_or bytes n 0 / 2 ^ e % 2) q m

    whole : (n : ℕ) → n / 2 ^ (8 - 8) ≡ n
    whole n = omega arith

-- 27 bytes with the bits of the fields are the bytes that are laid for them
pub bytes_again : (fs : List Field) (bytes : List ℕ) → length bytes ≡ 27 → ((i : ℕ) → get_or bytes i 0 < 256) → ((i : ℕ) → i < 216 → laid_bit fs i ≡ bit bytes i) → laid_bytes fs ≡ bytes
unfolding laid_bytes
bytes_again fs bytes size small same =
    sym (fill_by_all (λ k. number (laid_bit fs) (8 * k) 8) bytes 27 0 size (λ k h. sym (number_same (laid_bit fs) (bit bytes) (8 * k) (8 * k) 8 (λ i l. same (8 * k + i) (inside k i h l)) ∙ byte_again bytes k (small k))))
  where
    inside : (k i : ℕ) → k < 27 → i < 8 → 8 * k + i < 216
    inside k i h l = omega arith
