-- How an event line is read, part by part.
use Rattle.std.specs.Prelude.{ℕ, zero, suc, ◌+◌, ◌-◌, Bool, true, false, cond, List, [], ◌∷◌, length, drop, Ok, Err, Result, ◌==◌}
use Rattle.cab.specs.declared.event.Button.{Button}
use Rattle.cab.specs.declared.event.Button.TheVariants.{Bac, Bncv, Bcvr, Bfc, Blj, Blr}
use Rattle.cab.specs.declared.event.Kind.{Kind}
use Rattle.cab.specs.declared.event.Kind.TheVariants as kind
use Rattle.cab.specs.declared.event.Lever.{Lever}
use Rattle.cab.specs.declared.event.Lever.TheVariants.{Forward, Neutral, Reverse}
use Rattle.cab.specs.declared.event.Pulse.{Pulse}
use Rattle.cab.specs.declared.event.Pulse.TheVariants.{Restrictive, Clear}
use Rattle.text.specs.Pairs.{pairs_at}
use Rattle.text.specs.Parts.{Reading, and_then, ended, word_at, number_at, digit}
use Rattle.events.specs.Said.{Happening, tick, speed, pulse, lever, button, telegram, Written, lost, digits, Said}
use Rattle.events.specs.Texts.{kind_text, pulse_text, lever_text, button_text, press_text, crc_text}

abbrev pub kinds : List Kind
kinds = kind.Tick ∷ kind.Speed ∷ kind.Pulse ∷ kind.Lever ∷ kind.Button ∷ kind.Telegram ∷ []

abbrev pub pulses : List Pulse
pulses = Restrictive ∷ Clear ∷ []

abbrev pub levers : List Lever
levers = Forward ∷ Neutral ∷ Reverse ∷ []

abbrev pub buttons : List Button
buttons = Bac ∷ Bncv ∷ Bcvr ∷ Bfc ∷ Blj ∷ Blr ∷ []

abbrev pub flags : List Bool
flags = true ∷ false ∷ []

-- the values of the decimal digits in front, at most so many
abbrev pub digits_in : ℕ → List ℕ → List ℕ
digits_in zero cs = []
digits_in (suc most) [] = []
digits_in (suc most) (c ∷ cs) = cond (digit c) ((c - 48) ∷ digits_in most cs) []

abbrev pub speed_from : List ℕ → ℕ → Reading Written
speed_from [] at = Err at
speed_from (c ∷ cs) at = cond (c == 76) (Ok (lost, at + 1)) (cond (digit c) (Ok (digits ((c - 48) ∷ digits_in 2 cs), at + 1 + length (digits_in 2 cs))) (Err at))

-- L, or one decimal digit and up to two more
unfoldable pub speed_at : List ℕ → ℕ → Reading Written
speed_at line at = speed_from (drop at line) at

-- what stands behind the kind
abbrev pub rest_at : Kind → List ℕ → ℕ → Reading (Happening Written)
rest_at kind.Tick line at = Ok (tick, at)
rest_at kind.Speed line at = and_then (speed_at line at) (λ v n. Ok (speed v, n))
rest_at kind.Pulse line at = and_then (word_at pulse_text pulses line at) (λ p n. Ok (pulse p, n))
rest_at kind.Lever line at = and_then (word_at lever_text levers line at) (λ l n. Ok (lever l, n))
rest_at kind.Button line at = and_then (word_at button_text buttons line at) (λ b n. and_then (word_at press_text flags line n) (λ pressed m. Ok (button b pressed, m)))
rest_at kind.Telegram line at = and_then (word_at crc_text flags line at) (λ crc n. and_then (pairs_at 104 line n) (λ bytes m. Ok (telegram crc bytes, m)))

-- what happened: the kind and what stands behind it
abbrev pub what_at : List ℕ → ℕ → Reading (Happening Written)
what_at line at = and_then (word_at kind_text kinds line at) (λ k n. rest_at k line n)

abbrev pub said : ℕ → Happening Written → Said
said t w = record { time = t; what = w }

-- the time, and then what happened
abbrev pub event_at : List ℕ → ℕ → Reading Said
event_at line at = and_then (number_at 9999999999 line at) (λ t n. and_then (what_at line n) (λ w m. Ok (said t w, m)))

-- the whole line: what it says, or the place that is illegal
abbrev pub event_read : List ℕ → Result Said ℕ
event_read line = ended line (event_at line 0)
