-- What a line that is read says of the line.
use Rattle.std.specs.Prelude.{◌≡◌, ℕ, List, Ok, Err, Result}
use Rattle.text.specs.Legal.{LineOf, IllegalAt}
use Rattle.text.specs.declared.fault.TextFault.{TextFault}
use Rattle.text.specs.declared.fault.TextFault.TheVariants.{Illegal, Short}
use Rattle.events.specs.declared.line.EventLine.{EventLine}
use Rattle.events.specs.Heard.{line_heard, line_meant}
use Rattle.events.specs.Reads.{event_read}
use Rattle.events.specs.Said.{Said, Good}
use Rattle.events.specs.Texts.{event_text}

-- a legal line: something that a line can say is written as it
abbrev pub Legal : List ℕ → Type 0
Legal line = LineOf Good event_text line

-- a line that was read is legal, and what was heard is what it says; a line that was refused is illegal, first at this place
abbrev pub Lawful : List ℕ → Result EventLine TextFault → Type 0
Lawful line (Ok l) = (s : Said) × Good s × (event_text s ≡ line) × (line_heard l ≡ line_meant s)
Lawful line (Err (Illegal place)) = IllegalAt Legal line place
Lawful line (Err Short) = ⊥

-- what is written reads back
abbrev pub ReadsBack : Type 0
ReadsBack = (s : Said) → Good s → event_read (event_text s) ≡ Ok s
