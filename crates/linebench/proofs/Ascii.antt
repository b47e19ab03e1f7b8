-- A strip line is of ASCII characters, and so it is text.
use Rattle.std.proofs.Common.{◌≡◌, ℕ, ◌-◌, Bool, true, ◌&&◌, ltb, List, [], ◌∷◌, ◌++◌, take, Some, None, Ok, Err, Option, Result, MatchResult, IsOk, decimal, refl, sym, subst, arith}
use Rattle.std.proofs.lemmas.Grind.{common_steps}
use Rattle.std.specs.Str.{IsAscii, IsUtf8}
use Rattle.std.proofs.lemmas.Bool.{and_parts, ltb-true}
use Rattle.std.proofs.lemmas.Fmt.{IsAscii-decimal}
use Rattle.std.proofs.lemmas.Str.{IsAscii-append, IsUtf8-from_ascii}
use Rattle.std.proofs.lemmas.Str.Ascii.{IsAscii-nil, IsAscii-cons}
use Rattle.balise.specs.declared.code.Code.{Code}
use Rattle.balise.specs.declared.code.Digit.{Digit}
use Rattle.cab.specs.Records.{Entry}
use Rattle.cab.specs.declared.event.Kind.{Kind}
use Rattle.cab.specs.declared.panel.Cause.{Cause}
use Rattle.cab.specs.declared.panel.Lamp.{Lamp}
use Rattle.cab.specs.declared.panel.Mode.{Mode}
use Rattle.lines.specs.StripWords.{kind_word, digit_word, brake_word, mode_word, flag_word, lamp_word}
use Rattle.lines.specs.StripLaws.{FitsThirty}
use Rattle.lines.specs.Strips.{InRange, code_text, strip_text}
use Rattle.lines.specs.Writing.{write_answer, buffer_after}
use Rattle.text.specs.declared.fault.TextFault.{TextFault}

-- words

abbrev ascii : List ℕ → Bool
ascii [] = true
ascii (b ∷ bs) = ltb b 128 && ascii bs

word : (bs : List ℕ) → ascii bs ≡ true → IsAscii bs
word [] h = IsAscii-nil
word (b ∷ bs) h =
    let p = and_parts (ltb b 128) (ascii bs) h in
    IsAscii-cons b bs (ltb-true b 128 p.0) (word bs p.1)

kind : (k : Kind) → ascii (kind_word k) ≡ true
kind k = grind arith

digit : (d : Digit) → ascii (digit_word d) ≡ true
digit d = grind arith

brake : (b : Option Cause) → ascii (brake_word b) ≡ true
brake b = grind arith

mode : (m : Mode) → ascii (mode_word m) ≡ true
mode m = grind arith

flag : (f : Bool) → ascii (flag_word f) ≡ true
flag f = grind arith

lamp : (l : Lamp) → ascii (lamp_word l) ≡ true
lamp l = grind arith

code : (c : Option Code) → IsAscii (code_text c)
code (Some c) = IsAscii-append (digit_word c.first) (digit_word c.second) (word _ (digit c.first)) (word _ (digit c.second))
code None = word (code_text None) refl

-- a part, a comma and the parts behind it
then : (text more : List ℕ) → IsAscii text → IsAscii more → IsAscii (text ++ (44 ∷ more))
then text more h m = IsAscii-append text (44 ∷ more) h (IsAscii-cons 44 more (omega arith) m)

strip_utf8 : (e : Entry) → InRange e → IsUtf8 (strip_text e)
unfolding strip_text
strip_utf8 e h = IsUtf8-from_ascii (strip_text e)
    (then (decimal e.time) _ (IsAscii-decimal e.time (omega (arith, h)))
    (then (kind_word e.kind) _ (word _ (kind e.kind))
    (then (code_text e.code) _ (code e.code)
    (then (brake_word e.panel.brake) _ (word _ (brake e.panel.brake))
    (then (mode_word e.panel.mode) _ (word _ (mode e.panel.mode))
    (then (flag_word e.panel.crocodile) _ (word _ (flag e.panel.crocodile))
    (then (lamp_word e.panel.yellow) _ (word _ (lamp e.panel.yellow))
    (then (lamp_word e.panel.red) _ (word _ (lamp e.panel.red))
    (word _ (flag e.panel.gong))))))))))

-- the line that was written, without its byte 10
front : (e : Entry) (r : Result ℕ TextFault) (size : ℕ) (text out : List ℕ) → FitsThirty e → r ≡ write_answer e 30 → text ≡ buffer_after r e out → r ≡ Ok size → take (size - 1) text ≡ strip_text e
front e r size text out f w b s = grind (arith, common_steps)

pub front_utf8 : (e : Entry) (r : Result ℕ TextFault) (size : ℕ) (text out : List ℕ) → InRange e → FitsThirty e → r ≡ write_answer e 30 → text ≡ buffer_after r e out → r ≡ Ok size → IsUtf8 (take (size - 1) text)
front_utf8 e r size text out h f w b s = subst IsUtf8 (sym (front e r size text out f w b s)) (strip_utf8 e h)

-- text is read as such
pub utf8_ok : {T E : Type 0} (bytes : List ℕ) (r : Result T E) (P : T → Type 0) (Q : E → Type 0) → MatchResult r P (λ e. ¬ (IsUtf8 bytes) × Q e) → IsUtf8 bytes → IsOk r
utf8_ok bytes (Ok s) P Q m u = refl
utf8_ok bytes (Err e) P Q m u = absurd (m.0 u)
