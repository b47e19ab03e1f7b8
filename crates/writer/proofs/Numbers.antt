-- What follows of the numbers that bits make.
use Rattle.std.proofs.Common.{◌≡◌, ℕ, zero, suc, ◌+◌, ◌-◌, ◌*◌, ◌/◌, ◌%◌, ◌^◌, ◌<◌, ◌≤◌, sym, refl, ap, ◌∙◌, ap₂, ⊎_elim, arith}
use Rattle.std.proofs.lemmas.Nat.{div_below, pow_pos, shr-shr}
use Rattle.std.proofs.lemmas.Bool.{cases_eq}
use Rattle.telegram.specs.Bits.{number}

-- equal bits make equal numbers
pub number_same : (f g : ℕ → ℕ) (a b w : ℕ) → ((i : ℕ) → i < w → f (a + i) ≡ g (b + i)) → number f a w ≡ number g b w
number_same f g a b zero same = refl
number_same f g a b (suc w) same =
    ap₂ (λ (m n : ℕ). m * 2 + n) (number_same f g a b w (λ i h. same i (omega arith))) (same w (omega arith))

-- each bit of a number is the bit that made it
pub number_bit : (f : ℕ → ℕ) → ((i : ℕ) → f i < 2) → (at w j : ℕ) → j < w → number f at w / 2 ^ (w - 1 - j) % 2 ≡ f (at + j)
number_bit f small at zero j h = absurd (omega arith)
number_bit f small at (suc w) j h = ⊎_elim last (λ ne. earlier ne (number_bit f small at w j (omega arith))) (cases_eq j w)
  where
    last : j ≡ w → number f at (suc w) / 2 ^ (suc w - 1 - j) % 2 ≡ f (at + j)
    last e =
        let none : suc w - 1 - j ≡ 0 = omega arith in
        let one = small (at + w) in
        let same : f (at + j) ≡ f (at + w) = ap (λ (n : ℕ). f (at + n)) e in
        rw none (omega arith)

    earlier : (j ≡ w → ⊥) → number f at w / 2 ^ (w - 1 - j) % 2 ≡ f (at + j) → number f at (suc w) / 2 ^ (suc w - 1 - j) % 2 ≡ f (at + j)
    earlier ne before =
        let one = small (at + w) in
        let k : suc w - 1 - j ≡ 1 + (w - 1 - j) = omega arith in
        let half : (number f at w * 2 + f (at + w)) / 2 ^ 1 ≡ number f at w = omega arith in
        rw k (sym (ap (λ (n : ℕ). n % 2) (shr-shr (number f at w * 2 + f (at + w)) 1 (w - 1 - j))) ∙ ap (λ (n : ℕ). n / 2 ^ (w - 1 - j) % 2) half ∙ before)

-- the bits of a value, the highest of W first, make it again as far as they go
pub value_bits : (v W w : ℕ) → v < 2 ^ W → w ≤ W → number (λ i. v / 2 ^ (W - 1 - i) % 2) 0 w ≡ v / 2 ^ (W - w)
value_bits v W zero h l =
    let k : W - 0 ≡ W = omega arith in
    let q = div_below v (2 ^ W) 1 (pow_pos W) (omega arith) in
    rw k (omega arith)
value_bits v W (suc w) h l =
    let k : W - w ≡ (W - suc w) + 1 = omega arith in
    let m : W - 1 - (0 + w) ≡ W - suc w = omega arith in
    let q = v / 2 ^ (W - suc w) in
    let half : v / 2 ^ (W - w) ≡ q / 2 ^ 1 = ap (λ (n : ℕ). v / 2 ^ n) k ∙ sym (shr-shr v (W - suc w) 1) in
    let less = value_bits v W w h (omega arith) in
    let here : v / 2 ^ (W - 1 - (0 + w)) % 2 ≡ q % 2 = ap (λ (n : ℕ). v / 2 ^ n % 2) m in
    ap₂ (λ (a b : ℕ). a * 2 + b) (less ∙ half) here ∙ halves q
  where
    halves : (n : ℕ) → n / 2 ^ 1 * 2 + n % 2 ≡ n
    halves n = omega arith
