-- What is printed of a line.
use Rattle.std.specs.Prelude.{ℕ, Bool, true, false, List, ◌++◌, Option, Some, None, codes, decimal}
use Rattle.cab.specs.Events.{pulse_text, lever_text, button_text}
use Rattle.cab.specs.Records.{entry_of}
use Rattle.events.specs.Heard.{heard}
use Rattle.events.specs.Said.{Happening, tick, speed, pulse, lever, button, telegram}
use Rattle.lines.specs.Strips.{strip_text}
use Rattle.linebench.specs.declared.shown.Shown.{Shown}
use Rattle.linebench.specs.declared.shown.Shown.TheVariants.{Strip, Event, Unknown}
use Rattle.text.specs.Hexes.{hex_text}

-- a speed, or that it is lost
abbrev pub speed_text : Option ℕ → List ℕ
speed_text (Some kmh) = codes "speed," ++ decimal kmh
speed_text None = codes "speed,lost"

-- what was done with a button
abbrev pub press_text : Bool → List ℕ
press_text true = codes "press,"
press_text false = codes "release,"

-- the antenna's word on a CRC
abbrev pub crc_text : Bool → List ℕ
crc_text true = codes "good"
crc_text false = codes "bad"

-- what happened, in words
abbrev pub happening_text : Happening (Option ℕ) → List ℕ
happening_text tick = codes "tick"
happening_text (speed v) = speed_text v
happening_text (pulse p) = codes "pulse," ++ pulse_text p
happening_text (lever l) = codes "lever," ++ lever_text l
happening_text (button b pressed) = press_text pressed ++ button_text b
happening_text (telegram crc bytes) = codes "telegram," ++ crc_text crc ++ codes "," ++ hex_text bytes

-- a strip line as it was; an event line's time and what happened then
abbrev pub shown_text : Shown → List ℕ
shown_text (Strip r) = strip_text (entry_of r)
shown_text (Event l) = decimal l.now.time ++ codes "," ++ happening_text (heard l.now)
shown_text Unknown = codes "?"
