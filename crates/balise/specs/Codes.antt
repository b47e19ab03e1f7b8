-- The digits of a code and their values.
use Rattle.std.specs.Prelude.{◌≡◌, ℕ, List, [], ◌∷◌, ◌++◌, Option, Some, None, Result, MatchResult, codes}
use Rattle.std.specs.List.{slice_get}
use Rattle.balise.specs.declared.code.Code.{Code}
use Rattle.balise.specs.declared.code.Digit.{Digit}
use Rattle.balise.specs.declared.code.NotADigit.{NotADigit}
use Rattle.balise.specs.declared.code.Digit.TheVariants.{Zero, One, Two, Three, Four, Five, Six, Seven, Eight, Nine, Ten}

-- the digits, each at the place of its value
abbrev pub digits : List Digit
digits = Zero ∷ (One ∷ (Two ∷ (Three ∷ (Four ∷ (Five ∷ (Six ∷ (Seven ∷ (Eight ∷ (Nine ∷ (Ten ∷ []))))))))))

-- the digit of a value, none above ten
abbrev pub digit_of : ℕ → Option Digit
digit_of n = slice_get digits n

abbrev pub value_of : Digit → ℕ
value_of Zero = 0
value_of One = 1
value_of Two = 2
value_of Three = 3
value_of Four = 4
value_of Five = 5
value_of Six = 6
value_of Seven = 7
value_of Eight = 8
value_of Nine = 9
value_of Ten = 10

-- the digit of this value, or that the value is no digit's
abbrev pub DigitOf : ℕ → Result Digit NotADigit → Type 0
DigitOf n r = MatchResult r (λ d. digit_of n ≡ Some d) (λ e. (digit_of n ≡ None) × (e.0 ≡ n))

-- a digit as it is written: ten is A
abbrev pub digit_text : Digit → List ℕ
digit_text Zero = codes "0"
digit_text One = codes "1"
digit_text Two = codes "2"
digit_text Three = codes "3"
digit_text Four = codes "4"
digit_text Five = codes "5"
digit_text Six = codes "6"
digit_text Seven = codes "7"
digit_text Eight = codes "8"
digit_text Nine = codes "9"
digit_text Ten = codes "A"

-- a code as it is written: its two digits
abbrev pub code_text : Code → List ℕ
code_text c = digit_text c.first ++ digit_text c.second
