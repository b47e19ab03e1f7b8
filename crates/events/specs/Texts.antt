-- How an event line is written, as ASCII codes and without its byte 10.
use Rattle.std.specs.Prelude.{ℕ, ◌+◌, Bool, true, false, List, [], ◌++◌, map, codes, decimal}
use Rattle.cab.specs.declared.event.Button.{Button}
use Rattle.cab.specs.declared.event.Button.TheVariants.{Bac, Bncv, Bcvr, Bfc, Blj, Blr}
use Rattle.cab.specs.declared.event.Kind.{Kind}
use Rattle.cab.specs.declared.event.Kind.TheVariants as kind
use Rattle.cab.specs.declared.event.Lever.{Lever}
use Rattle.cab.specs.declared.event.Lever.TheVariants.{Forward, Neutral, Reverse}
use Rattle.cab.specs.declared.event.Pulse.{Pulse}
use Rattle.cab.specs.declared.event.Pulse.TheVariants.{Restrictive, Clear}
use Rattle.text.specs.Hexes.{hex_text}
use Rattle.events.specs.Said.{Happening, tick, speed, pulse, lever, button, telegram, Written, lost, digits, Said}

-- the letter of a kind, and its comma where more follows
abbrev pub kind_text : Kind → List ℕ
kind_text kind.Tick = codes "K"
kind_text kind.Speed = codes "S,"
kind_text kind.Pulse = codes "P,"
kind_text kind.Lever = codes "L,"
kind_text kind.Button = codes "B,"
kind_text kind.Telegram = codes "T,"

abbrev pub pulse_text : Pulse → List ℕ
pulse_text Restrictive = codes "R"
pulse_text Clear = codes "C"

abbrev pub lever_text : Lever → List ℕ
lever_text Forward = codes "F"
lever_text Neutral = codes "N"
lever_text Reverse = codes "R"

-- a button's name and its comma
abbrev pub button_text : Button → List ℕ
button_text Bac = codes "BAC,"
button_text Bncv = codes "BNCV,"
button_text Bcvr = codes "BCVR,"
button_text Bfc = codes "BFC,"
button_text Blj = codes "BLJ,"
button_text Blr = codes "BLR,"

-- pressed or released
abbrev pub press_text : Bool → List ℕ
press_text true = codes "1"
press_text false = codes "0"

-- the antenna's word on the CRC, and its comma
abbrev pub crc_text : Bool → List ℕ
crc_text true = codes "1,"
crc_text false = codes "0,"

abbrev pub speed_text : Written → List ℕ
speed_text lost = codes "L"
speed_text (digits ds) = map (λ d. 48 + d) ds

abbrev pub kind_of : {V : Type 0} → Happening V → Kind
kind_of tick = kind.Tick
kind_of (speed v) = kind.Speed
kind_of (pulse p) = kind.Pulse
kind_of (lever l) = kind.Lever
kind_of (button b pressed) = kind.Button
kind_of (telegram crc bytes) = kind.Telegram

-- what stands behind the kind
abbrev pub rest_text : Happening Written → List ℕ
rest_text tick = []
rest_text (speed v) = speed_text v
rest_text (pulse p) = pulse_text p
rest_text (lever l) = lever_text l
rest_text (button b pressed) = button_text b ++ press_text pressed
rest_text (telegram crc bytes) = crc_text crc ++ hex_text bytes

-- the line: its time and a comma, the kind, and the rest
abbrev pub event_text : Said → List ℕ
event_text s = (decimal s.time ++ codes ",") ++ (kind_text (kind_of s.what) ++ rest_text s.what)
