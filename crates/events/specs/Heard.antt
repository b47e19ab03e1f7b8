-- What the values of the code mean.
use Rattle.std.specs.Prelude.{ℕ, ◌+◌, ◌*◌, true, false, List, [], ◌∷◌, Some, None, Option, Result}
use Rattle.balise.specs.declared.reception.KeptReception.{KeptReception}
use Rattle.balise.specs.declared.reception.Reception.{Reception}
use Rattle.cab.specs.declared.event.Event.{Event}
use Rattle.cab.specs.declared.event.Event.TheVariants as event
use Rattle.few.specs.Items.{items}
use Rattle.text.specs.Cursors.{result_as}
use Rattle.events.specs.declared.line.EventLine.{EventLine}
use Rattle.events.specs.Said.{Happening, tick, speed, pulse, lever, button, telegram, Written, lost, digits, Said}

-- the number that these digits go on
abbrev pub number : ℕ → List ℕ → ℕ
number v [] = v
number v (d ∷ ds) = number (v * 10 + d) ds

-- the speed as the unit takes it: none where it is lost
abbrev pub speed_of : Written → Option ℕ
speed_of lost = None
speed_of (digits ds) = Some (number 0 ds)

-- what happened, with the speed as the unit takes it
abbrev pub meant : Happening Written → Happening (Option ℕ)
meant tick = tick
meant (speed v) = speed (speed_of v)
meant (pulse p) = pulse p
meant (lever l) = lever l
meant (button b pressed) = button b pressed
meant (telegram crc bytes) = telegram crc bytes

-- an event, of whose telegram this is told
abbrev pub event_told : {T : Type 0} → (T → Happening (Option ℕ)) → Event T → Happening (Option ℕ)
event_told told event.Tick = tick
event_told told (event.Speed v) = speed v
event_told told (event.Pulse p) = pulse p
event_told told (event.Lever l) = lever l
event_told told (event.Press b) = button b true
event_told told (event.Release b) = button b false
event_told told (event.Telegram t) = told t

-- an event of the unit
abbrev pub happened : Event Reception → Happening (Option ℕ)
happened e = event_told (λ t. telegram t.crc_good t.bytes.now) e

-- what happened, as a line that was read has it
abbrev pub what_heard : Event KeptReception → Happening (Option ℕ)
what_heard e = event_told (λ t. telegram t.crc_good (items t.bytes)) e

-- a line that was read: what happened
abbrev pub heard : EventLine → Happening (Option ℕ)
heard l = what_heard l.what

-- a line that was read: its time and what happened
abbrev pub line_heard : EventLine → ℕ × Happening (Option ℕ)
line_heard l = (l.time, heard l)

-- what is said: the time and what happened
abbrev pub line_meant : Said → ℕ × Happening (Option ℕ)
line_meant s = (s.time, meant s.what)

-- a line that was read, or what is wrong with it
abbrev pub line_result : {E : Type 0} → Result EventLine E → Result (ℕ × Happening (Option ℕ)) E
line_result r = result_as line_heard r

-- what a reading says, or the place that is illegal
abbrev pub result_meant : Result Said ℕ → Result (ℕ × Happening (Option ℕ)) ℕ
result_meant r = result_as line_meant r
