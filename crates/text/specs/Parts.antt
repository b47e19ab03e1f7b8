-- How the parts of a line are read, from left to right.
use Rattle.std.specs.Prelude.{ℕ, suc, ◌+◌, ◌-◌, ◌*◌, max, Bool, cond, ◌&&◌, List, [], ◌∷◌, length, drop, Some, None, Ok, Err, Option, Result, ◌==◌, nat_le, nat_lt, slice_get, if◌then◌else◌}

-- what a part reads as: its value and the place behind it, or the place that is illegal
abbrev pub Reading : Type 0 → Type 0
Reading A = Result (A × ℕ) ℕ

-- a part, and then what follows it
abbrev pub and_then : {A B : Type 0} → Reading A → (A → ℕ → Reading B) → Reading B
and_then (Ok p) next = next p.0 p.1
and_then (Err place) next = Err place

-- the part is the whole line
abbrev pub ended : {A : Type 0} → List ℕ → Reading A → Result A ℕ
ended line (Ok p) = cond (p.1 == length line) (Ok p.0) (Err p.1)
ended line (Err place) = Err place

-- any byte
abbrev pub byte_in : Option ℕ → ℕ → Reading ℕ
byte_in (Some c) at = Ok (c, at + 1)
byte_in None at = Err at

-- the byte that stands at this place, if the line goes on
abbrev pub byte_at : List ℕ → ℕ → Reading ℕ
byte_at line at = byte_in (slice_get line at) at

abbrev pub this_in : ℕ → Option ℕ → ℕ → Reading (Unit {0})
this_in wanted (Some c) at = if c == wanted then Ok (tt, at + 1) else Err at
this_in wanted None at = Err at

-- just this byte
abbrev pub this_at : ℕ → List ℕ → ℕ → Reading (Unit {0})
this_at wanted line at = this_in wanted (slice_get line at) at

-- the end of the line
abbrev pub end_at : List ℕ → ℕ → Reading (Unit {0})
end_at line at = if at == length line then Ok (tt, at) else Err at

-- how many bytes two texts begin with alike
abbrev pub alike : List ℕ → List ℕ → ℕ
alike [] ys = 0
alike (x ∷ xs) [] = 0
alike (x ∷ xs) (y ∷ ys) = cond (x == y) (suc (alike xs ys)) 0

-- whether the text begins with this word
abbrev pub begins : List ℕ → List ℕ → Bool
begins text word = alike text word == length word

-- the first value whose word the text begins with
abbrev pub picked : {A : Type 0} → (A → List ℕ) → List A → List ℕ → Option A
picked word [] text = None
picked word (a ∷ others) text = cond (begins text (word a)) (Some a) (picked word others text)

-- how many bytes the text begins with alike with a word at most
abbrev pub reach : {A : Type 0} → (A → List ℕ) → List A → List ℕ → ℕ
reach word [] text = 0
reach word (a ∷ others) text = max (alike text (word a)) (reach word others text)

-- the first value whose word the text begins with, or how many bytes it begins with alike with a word at most
abbrev pub picked_or : {A : Type 0} → ℕ → Option A → Result A ℕ
picked_or far (Some a) = Ok a
picked_or far None = Err far

abbrev pub picked_or_reach : {A : Type 0} → (A → List ℕ) → List A → List ℕ → Result A ℕ
picked_or_reach word all text = picked_or (reach word all text) (picked word all text)

-- the word that was picked at this place, or the byte up to which the words reach
abbrev pub picked_at : {A : Type 0} → (A → List ℕ) → ℕ → ℕ → Option A → Reading A
picked_at word at far (Some a) = Ok (a, at + length (word a))
picked_at word at far None = Err (at + far)

-- one word of a table: the place behind it, or the first byte with which no word of the table goes on
unfoldable pub word_at : {A : Type 0} → (A → List ℕ) → List A → List ℕ → ℕ → Reading A
word_at word all line at = picked_at word at (reach word all (drop at line)) (picked word all (drop at line))

-- a comma and one word of a table
unfoldable pub field_at : {A : Type 0} → (A → List ℕ) → List A → List ℕ → ℕ → Reading A
field_at word all line at = and_then (this_at 44 line at) (λ u n. word_at word all line n)

-- a byte that is a decimal digit
abbrev pub digit : ℕ → Bool
digit c = nat_le 48 c && nat_le c 57

-- a number of this value may go on with the byte c: it is a digit, no digit goes on a 0, and the limit is kept
abbrev pub goes_on : ℕ → ℕ → ℕ → Bool
goes_on limit value c = digit c && (nat_lt 0 value && nat_le (value * 10 + (c - 48)) limit)

-- the number with the digit c more, where it may go on so
abbrev pub pushed : ℕ → ℕ → ℕ → Option ℕ
pushed limit value c = cond (goes_on limit value c) (Some (value * 10 + (c - 48))) None

-- the number that begins with the byte c, where one may begin so
abbrev pub opened : ℕ → ℕ → Option ℕ
opened limit c = cond (digit c && nat_le (c - 48) limit) (Some (c - 48)) None

-- these of a byte, if there is one
abbrev pub opened_by : ℕ → Option ℕ → Option ℕ
opened_by limit (Some c) = opened limit c
opened_by limit None = None

abbrev pub pushed_by : ℕ → ℕ → Option ℕ → Option ℕ
pushed_by limit value (Some c) = pushed limit value c
pushed_by limit value None = None

-- the number that the digits in front make of a number of this value, and the place behind them
abbrev pub digits_up : ℕ → ℕ → List ℕ → ℕ → ℕ × ℕ
digits_up limit value [] at = (value, at)
digits_up limit value (c ∷ cs) at = cond (goes_on limit value c) (digits_up limit (value * 10 + (c - 48)) cs (at + 1)) (value, at)

-- a decimal number at the front of what is left of the line
abbrev pub decimal_from : ℕ → List ℕ → ℕ → Reading ℕ
decimal_from limit [] at = Err at
decimal_from limit (c ∷ cs) at = cond (digit c && nat_le (c - 48) limit) (Ok (digits_up limit (c - 48) cs (at + 1))) (Err at)

-- a decimal number, with no leading zero and within the limit; it ends where no further digit may follow
abbrev pub decimal_at : ℕ → List ℕ → ℕ → Reading ℕ
decimal_at limit line at = decimal_from limit (drop at line) at

-- such a number, and its comma
unfoldable pub number_at : ℕ → List ℕ → ℕ → Reading ℕ
number_at limit line at = and_then (decimal_at limit line at) (λ v n. and_then (this_at 44 line n) (λ u m. Ok (v, m)))

-- the value of a hexadecimal digit, '0' to '9' and 'A' to 'F'
abbrev pub hex_value : ℕ → Option ℕ
hex_value c = cond (digit c) (Some (c - 48)) (cond (nat_le 65 c && nat_le c 70) (Some (c - 55)) None)

abbrev pub hex_in : Option ℕ → ℕ → Reading ℕ
hex_in (Some v) at = Ok (v, at + 1)
hex_in None at = Err at

abbrev pub hex_of : Option ℕ → ℕ → Reading ℕ
hex_of (Some c) at = hex_in (hex_value c) at
hex_of None at = Err at

-- a hexadecimal digit, capitals only
abbrev pub hex_digit_at : List ℕ → ℕ → Reading ℕ
hex_digit_at line at = hex_of (slice_get line at) at

-- two hexadecimal digits that make a byte
abbrev pub hex_pair_at : List ℕ → ℕ → Reading ℕ
hex_pair_at line at = and_then (hex_digit_at line at) (λ high n. and_then (hex_digit_at line n) (λ low m. Ok (16 * high + low, m)))
