-- How the reader of pairs of hexadecimal digits goes on.
use Rattle.std.proofs.Common.{◌≡◌, ℕ, zero, suc, ◌+◌, ◌-◌, ◌*◌, ◌<◌, ◌≤◌, List, [], ◌∷◌, ◌++◌, length, get_or, drop, Some, None, Ok, Err, Option, sym, refl, ap, ◌∙◌, append_assoc, append-nil, add_assoc, arith, length-append}
use Rattle.std.proofs.lemmas.List.{drop_more, drop_all}
use Rattle.std.proofs.lemmas.Option.{slice_get-get_or}
use Rattle.text.specs.Pairs.{in_front, pair_then, pairs_from, pairs_at}
use Rattle.text.specs.Parts.{Reading, and_then, hex_value, hex_in, hex_of, hex_digit_at, hex_pair_at}
use Rattle.text.proofs.Loops.{at_get}

module _ (most : ℕ) (line : List ℕ) (at : ℕ) where
  abbrev others : ℕ → ℕ → Reading (List ℕ)
  others b n = in_front b (pairs_from most (drop n line) n)

  -- a pair of digits, of which the first has this value, and then the others
  abbrev pair_and_others : Option ℕ → Reading (List ℕ)
  pair_and_others high = and_then (and_then (hex_in high at) (λ high n. and_then (hex_digit_at line n) (λ low m. Ok (16 * high + low, m)))) others

  both : (high low : Option ℕ) (r : Reading (List ℕ)) → hex_digit_at line (at + 1) ≡ hex_in low (at + 1) → ((l : ℕ) → low ≡ Some l → r ≡ pairs_from most (drop (at + 1 + 1) line) (at + 1 + 1)) → pair_then high low at r ≡ pair_and_others high
  both None low r e more = refl
  both (Some h) None r e more = rw e refl
  both (Some h) (Some l) r e more = rw (e, more l refl) refl

  first : (h : ℕ) → pairs_from (suc most) (h ∷ drop (at + 1) line) at ≡ pair_and_others (hex_value h)
  first h = at_get (λ o xs. hex_digit_at line (at + 1) ≡ hex_of o (at + 1) → pairs_from (suc most) (h ∷ xs) at ≡ pair_and_others (hex_value h)) line (at + 1) (λ l n e. both (hex_value h) (hex_value l) _ e (λ v q. ap (pairs_from most (drop (at + 1 + 1) line)) (sym (add_assoc at 1 1)))) (λ e. both (hex_value h) None _ e (λ v q. cc)) refl

  pair_next : at < length line → pairs_from (suc most) (drop at line) at ≡ and_then (hex_pair_at line at) others
  pair_next l = rw (drop_more line at 0 l, slice_get-get_or line at 0 l) (first (get_or line at 0))

-- what is read, behind these bytes
abbrev pub behind : List ℕ → Reading (List ℕ) → Reading (List ℕ)
behind bytes (Ok p) = Ok (bytes ++ p.0, p.1)
behind bytes (Err place) = Err place

-- what is left of the line, behind the bytes that were read
abbrev pub left : ℕ → List ℕ → List ℕ → ℕ → Reading (List ℕ)
left most bytes line at = behind bytes (pairs_from (most - length bytes) (drop at line) at)

module _ (most : ℕ) (bytes line : List ℕ) (at : ℕ) where
  pub left_starts : bytes ≡ [] → left most bytes line at ≡ pairs_at most line at
  unfolding pairs_at
  left_starts e = rw (e, all) (none (pairs_from most (drop at line) at))
    where
      all : most - length {0} {A = ℕ} [] ≡ most
      all = omega arith

      none : (r : Reading (List ℕ)) → behind [] r ≡ r
      none (Ok p) = refl
      none (Err place) = refl

  pub left_full : length bytes ≡ most → at < length line → left most bytes line at ≡ Err at
  left_full e l = let none : most - length bytes ≡ 0 = omega arith in rw (none, drop_more line at 0 l) refl

  next : length bytes < most → at < length line → left most bytes line at ≡ behind bytes (and_then (hex_pair_at line at) (others (most - (length bytes + 1)) line at))
  next h l = let room : most - length bytes ≡ suc (most - (length bytes + 1)) = omega arith in rw (room, pair_next (most - (length bytes + 1)) line at l) refl

  pub left_stops : (place : ℕ) → length bytes < most → at < length line → hex_pair_at line at ≡ Err place → left most bytes line at ≡ Err place
  left_stops place h l e = next h l ∙ ap (λ (r : Reading ℕ). behind bytes (and_then r (others (most - (length bytes + 1)) line at))) e

  pub left_pair : (b n : ℕ) → length bytes < most → at < length line → hex_pair_at line at ≡ Ok (b, n) → left most bytes line at ≡ left most (bytes ++ (b ∷ [])) line n
  left_pair b n h l e = next h l ∙ ap (λ (r : Reading ℕ). behind bytes (and_then r (others (most - (length bytes + 1)) line at))) e ∙ rw (length-append bytes (b ∷ [])) (front (pairs_from (most - (length bytes + 1)) (drop n line) n))
    where
      front : (r : Reading (List ℕ)) → behind bytes (in_front b r) ≡ behind (bytes ++ (b ∷ [])) r
      front (Ok p) = rw append_assoc refl
      front (Err place) = refl

  pub left_ends : length line ≤ at → left most bytes line at ≡ Ok (bytes, at)
  left_ends h = rw (drop_all at line h) (none (most - length bytes))
    where
      none : (n : ℕ) → behind bytes (pairs_from n [] at) ≡ Ok (bytes, at)
      none zero = rw append-nil refl
      none (suc n) = rw append-nil refl

pub ruleset pair_steps = (left_starts, left_full, left_ends)
