-- Where a part is illegal, that is in the line.
use Rattle.std.proofs.Common.{◌≡◌, ℕ, zero, suc, ◌+◌, ◌-◌, ◌≤◌, Bool, true, false, cond, ◌&&◌, leb, List, [], ◌∷◌, length, length-drop, drop, Some, None, Ok, Err, Option, arith}
use Rattle.text.specs.Pairs.{pair_then, pairs_from, pairs_at}
use Rattle.text.specs.Parts.{Reading, digit, digits_up, decimal_from, decimal_at, hex_value}

-- wherever in a line the part is asked for, an illegal place is in the line
abbrev pub StaysIn : {A : Type 0} → (List ℕ → ℕ → Reading A) → Type 0
StaysIn part = (line : List ℕ) (at place : ℕ) → at ≤ length line → part line at ≡ Err place → place ≤ length line

pub decimal_stays : (limit : ℕ) → StaysIn (decimal_at limit)
decimal_stays limit line at place h = ways (drop at line)
  where
    ways : (xs : List ℕ) → decimal_from limit xs at ≡ Err place → place ≤ length line
    ways [] e = let i : at ≡ place = cc in omega arith
    ways (c ∷ cs) e = here (digit c && leb (c - 48) limit) e
      where
        here : (b : Bool) → cond b (Ok (digits_up limit (c - 48) cs (at + 1))) (Err at) ≡ Err place → place ≤ length line
        here true e = cc
        here false e = let i : at ≡ place = cc in omega arith

-- pairs of digits are illegal among these bytes or behind them
pairs_among : (most : ℕ) (xs : List ℕ) (at place : ℕ) → pairs_from most xs at ≡ Err place → place ≤ at + length xs
pairs_among most [] at place e = cc
pairs_among zero (h ∷ cs) at place e = let i : at ≡ place = cc in omega arith
pairs_among (suc most) (h ∷ []) at place e = ways (hex_value h) e
  where
    ways : (o : Option ℕ) → pair_then o None at (Err at) ≡ Err place → place ≤ at + length (h ∷ [])
    ways None e = let i : at ≡ place = cc in omega arith
    ways (Some v) e = let i : at + 1 ≡ place = cc in omega arith
pairs_among (suc most) (h ∷ (l ∷ cs)) at place e = ways (hex_value h) (hex_value l) (pairs_from most cs (at + 2)) (pairs_among most cs (at + 2) place) e
  where
    ways : (o p : Option ℕ) (r : Reading (List ℕ)) → (r ≡ Err place → place ≤ at + 2 + length cs) → pair_then o p at r ≡ Err place → place ≤ at + length (h ∷ (l ∷ cs))
    ways None p r stays e = let i : at ≡ place = cc in omega arith
    ways (Some v) None r stays e = let i : at + 1 ≡ place = cc in omega arith
    ways (Some v) (Some w) (Ok p) stays e = cc
    ways (Some v) (Some w) (Err q) stays e = omega (arith, stays e)

pub pairs_stays : (most : ℕ) → StaysIn (pairs_at most)
unfolding pairs_at
pairs_stays most line at place h e = omega (arith, h, length-drop at line, pairs_among most (drop at line) at place e)
