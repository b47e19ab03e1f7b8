-- What follows of fields that lie end to end.
use Rattle.std.proofs.Common.{◌≡◌, ℕ, ◌+◌, ◌-◌, ◌/◌, ◌%◌, ◌^◌, ◌<◌, ◌≤◌, cond, eqb, ltb, leb, List, [], ◌∷◌, length, get_or, drop, sym, ◌∙◌, ⊎_elim, arith, pow_mono}
use Rattle.std.proofs.lemmas.Nat.{mod_below, div_below, le-div, pow_pos}
use Rattle.std.proofs.lemmas.List.{at_drop_more, at_drop_all}
use Rattle.std.proofs.lemmas.Bool.{cases_lt, cond_both, cond-true, cond-false, eq-eqb, ne_eqb, le-leb, lt-ltb, le-ltb}
use Rattle.telegram.proofs.Fields.{number_below}
use Rattle.telegram.specs.Bits.{number}
use Rattle.writer.specs.Layouts.{laid_bit}
use Rattle.writer.specs.declared.layout.Field.{Field}

-- a value of 16 bits has no bit with 16 or more below it
pub none_above : (value below : ℕ) → value < 65536 → 16 ≤ below → 0 ≡ value / 2 ^ below % 2
none_above value below h l =
    let big = pow_mono {i = 16} {j = below} l in
    let less = div_below value (2 ^ below) 1 (pow_pos below) (omega arith) in
    omega arith

-- a bit is 0 or 1
pub laid_below : (fs : List Field) (i : ℕ) → laid_bit fs i < 2
laid_below [] i = cond_both (ltb i 104) 1 0 (λ (x : ℕ). x < 2) (λ e. omega arith) (λ e. omega arith)
laid_below (f ∷ fs) i =
    cond_both (ltb i f.width) _ _ (λ (x : ℕ). x < 2) (λ e. mod_below (f.value / 2 ^ (f.width - 1 - i)) 2 (omega arith)) (λ e. laid_below fs (i - f.width))

-- up to eight bits make a number of one byte
pub laid_room : (fs : List Field) (place w : ℕ) → w ≤ 8 → number (laid_bit fs) place w < 256
laid_room fs place w h = omega (arith, number_below (laid_bit fs) (laid_below fs) place w, pow_mono {i = w} {j = 8} h)

-- the field that a place behind the list reads as
abbrev none : Field
none = record { value = 0; width = 0 }

-- the bit lies in the field at this place of the list
pub laid_here : (fs : List Field) (k i : ℕ) → k < length fs → i < (get_or fs k none).width
    → laid_bit (drop k fs) i ≡ (get_or fs k none).value / 2 ^ ((get_or fs k none).width - 1 - i) % 2
laid_here fs k i h l = at_drop_more (λ gs. laid_bit gs i) fs k none h ∙ cond-true _ _ _ (lt-ltb i _ l)

-- the bit lies behind the field at this place of the list
pub laid_later : (fs : List Field) (k i : ℕ) → k < length fs → (get_or fs k none).width ≤ i
    → laid_bit (drop k fs) i ≡ laid_bit (drop (k + 1) fs) (i - (get_or fs k none).width)
laid_later fs k i h l = at_drop_more (λ gs. laid_bit gs i) fs k none h ∙ cond-false _ _ _ (le-ltb i _ l)

-- the bit lies behind all fields
pub laid_behind : (fs : List Field) (k i : ℕ) → length fs ≤ k → laid_bit (drop k fs) i ≡ cond (ltb i 104) 1 0
laid_behind fs k i h = at_drop_all (λ gs. laid_bit gs i) fs k h

-- a value of 16 bits fits 16 bits and more
pub wide_enough : (value width : ℕ) → value < 65536 → 16 ≤ width → leb 16 width ≡ ltb value (2 ^ width)
wide_enough value width h l = le-leb 16 width l ∙ sym (lt-ltb value (2 ^ width) (omega (arith, pow_mono {i = 16} {j = width} l)))

-- a value fits so many bits just if nothing is left of it above them
pub nothing_above : (value width : ℕ) → eqb (value / 2 ^ width) 0 ≡ ltb value (2 ^ width)
nothing_above value width =
    ⊎_elim
    (λ less. let q = div_below value (2 ^ width) 1 (pow_pos width) (omega arith) in eq-eqb (value / 2 ^ width) 0 (omega arith) ∙ sym (lt-ltb value (2 ^ width) less))
    (λ more. let q = le-div 1 value (2 ^ width) (pow_pos width) (omega arith) in ne_eqb (value / 2 ^ width) 0 (λ e. omega arith) ∙ sym (le-ltb value (2 ^ width) more))
    (cases_lt value (2 ^ width))
