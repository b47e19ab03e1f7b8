-- What follows of bits and fields.
use Rattle.std.proofs.Common.{◌≡◌, ℕ, zero, suc, ◌+◌, ◌-◌, ◌*◌, ◌/◌, ◌%◌, ◌^◌, ◌<◌, List, get_or, drop, refl, add-one, add_assoc, arith, pow_mono}
use native.Mathlib.Nat.{pow-succ'}
use Rattle.std.proofs.lemmas.Nat.{mod_below}
use Rattle.std.proofs.lemmas.List.{get_or-drop}
use Rattle.telegram.specs.Bits.{bit, number, field}

-- a bit is 0 or 1
pub bit_below : (bytes : List ℕ) (i : ℕ) → bit bytes i < 2
bit_below bytes i = mod_below (get_or bytes (i / 8) 0 / 2 ^ (7 - i % 8)) 2 (omega arith)

-- no bits make 0
pub field_none : (bytes : List ℕ) (at : ℕ) → field bytes at 0 ≡ 0
unfolding field
field_none bytes at = refl

-- one bit more
pub field_more : (bytes : List ℕ) (at w : ℕ) → field bytes at (w + 1) ≡ field bytes at w * 2 + bit bytes (at + w)
unfolding field
field_more bytes at w = rw add-one refl

-- w bits make a number below 2 ^ w
pub number_below : (f : ℕ → ℕ) → ((i : ℕ) → f i < 2) → (at w : ℕ) → number f at w < 2 ^ w
number_below f small at zero = omega arith
number_below f small at (suc w) = rw pow-succ' (omega (arith, number_below f small at w, small (at + w)))

pub field_below : (bytes : List ℕ) (at w : ℕ) → field bytes at w < 2 ^ w
unfolding field
field_below bytes at w = number_below (bit bytes) (bit_below bytes) at w

-- fewer than 16 bits leave room for one more in 16
pub field_room : (bytes : List ℕ) (at w : ℕ) → w < 16 → field bytes at w < 32768
field_room bytes at w h = omega (arith, field_below bytes at w, pow_mono {i = w} {j = 15} (omega arith))

-- a bit of the part from byte k on is that of the whole, 8 * k bits further
bit_drop : (bytes : List ℕ) (k i : ℕ) → bit (drop k bytes) i ≡ bit bytes (8 * k + i)
bit_drop bytes k i =
    let d : (8 * k + i) / 8 ≡ k + i / 8 = omega arith in
    let m : (8 * k + i) % 8 ≡ i % 8 = omega arith in
    simp (d, m, get_or-drop)

-- and so is a field
pub field_drop : (bytes : List ℕ) (k at w : ℕ) → field (drop k bytes) at w ≡ field bytes (8 * k + at) w
unfolding field
field_drop bytes k at zero = refl
field_drop bytes k at (suc w) = simp (bit_drop, add_assoc, field_drop bytes k at w)

-- what the reading of a field needs, bit by bit
pub ruleset field_steps = (field_none, field_more, field_room, bit_below)
