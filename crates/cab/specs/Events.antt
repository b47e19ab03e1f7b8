-- What happens to the unit.
use Rattle.std.specs.Prelude.{ℕ, List, codes}
use Rattle.cab.specs.declared.event.Button.{Button}
use Rattle.cab.specs.declared.event.Button.TheVariants.{Bac, Bncv, Bcvr, Bfc, Blj, Blr}
use Rattle.cab.specs.declared.event.Event.{Event}
use Rattle.cab.specs.declared.event.Event.TheVariants as event
use Rattle.cab.specs.declared.event.Kind.{Kind}
use Rattle.cab.specs.declared.event.Kind.TheVariants as kind
use Rattle.cab.specs.declared.event.Lever.{Lever}
use Rattle.cab.specs.declared.event.Lever.TheVariants.{Forward, Neutral, Reverse}
use Rattle.cab.specs.declared.event.Pulse.{Pulse}
use Rattle.cab.specs.declared.event.Pulse.TheVariants.{Restrictive, Clear}

-- of what kind an event is
abbrev pub kind_of : {T : Type 0} → Event T → Kind
kind_of event.Tick = kind.Tick
kind_of (event.Speed v) = kind.Speed
kind_of (event.Pulse p) = kind.Pulse
kind_of (event.Lever l) = kind.Lever
kind_of (event.Press b) = kind.Button
kind_of (event.Release b) = kind.Button
kind_of (event.Telegram t) = kind.Telegram

-- what the brush felt, in a word
abbrev pub pulse_text : Pulse → List ℕ
pulse_text Restrictive = codes "restrictive"
pulse_text Clear = codes "clear"

-- the lever's position in a word
abbrev pub lever_text : Lever → List ℕ
lever_text Forward = codes "forward"
lever_text Neutral = codes "neutral"
lever_text Reverse = codes "reverse"

-- a button's name
abbrev pub button_text : Button → List ℕ
button_text Bac = codes "BAC"
button_text Bncv = codes "BNCV"
button_text Bcvr = codes "BCVR"
button_text Bfc = codes "BFC"
button_text Blj = codes "BLJ"
button_text Blr = codes "BLR"
