-- The line that a command stands in.
use Rattle.std.specs.Prelude.{◌≡◌, ℕ, ◌≤◌, List, length, Ok, Err, Result}
use Rattle.text.specs.declared.cursor.Cursor.{Cursor}
use Rattle.text.specs.declared.fault.Illegal.{Illegal}

-- the place of an illegal line is one of its bytes or its length
abbrev pub InLine : {X : Type 0} → List ℕ → Result X Illegal → Type 0
InLine line (Ok x) = Unit {0}
InLine line (Err e) = e.place ≤ length line

-- what is read leaves the line, and where it is illegal, that is in the line
abbrev pub Keeps : {X : Type 0} → Cursor → Cursor → Result X Illegal → Type 0
Keeps old new r = (new.line.now ≡ old.line.now) × InLine old.line.now r
