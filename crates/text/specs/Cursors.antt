-- What it means that a cursor read a part of its line.
use Rattle.std.specs.Prelude.{◌≡◌, ℕ, List, Ok, Err, Result}
use Rattle.text.specs.Parts.{Reading}
use Rattle.text.specs.declared.cursor.Cursor.{Cursor}
use Rattle.text.specs.declared.fault.Illegal.{Illegal}

-- from the place `at` of the line on, the part gives this: its value, and the place behind it is the new one; or the place that is illegal, which is the new one too
abbrev pub Gives : {A : Type 0} → (List ℕ → ℕ → Reading A) → List ℕ → ℕ → ℕ → Result A Illegal → Type 0
Gives part line at new (Ok a) = part line at ≡ Ok (a, new)
Gives part line at new (Err e) = (part line at ≡ Err e.place) × (new ≡ e.place)

-- the part was read at the cursor's old place, and the line is the same
abbrev pub Reads : {A : Type 0} → (List ℕ → ℕ → Reading A) → Cursor → Cursor → Result A Illegal → Type 0
Reads part old new r = Gives part old.line.now old.place new.place r × (new.line.now ≡ old.line.now)

-- what a result means, if it is one
abbrev pub result_as : {A B E : Type 0} → (A → B) → Result A E → Result B E
result_as f (Ok a) = Ok (f a)
result_as f (Err e) = Err e
