-- What an event line says.
use Rattle.std.specs.Prelude.{ℕ, ◌<◌, ◌≤◌, Bool, List, [], ◌∷◌, length}
use Rattle.cab.specs.declared.event.Button.{Button}
use Rattle.cab.specs.declared.event.Lever.{Lever}
use Rattle.cab.specs.declared.event.Pulse.{Pulse}

-- what happened, with its speed as V has it; true stands for a press, and for a good CRC
pub data Happening (V : Type 0) : Type 0 where
  tick : Happening V
  speed : V → Happening V
  pulse : Pulse → Happening V
  lever : Lever → Happening V
  button : Button → Bool → Happening V
  telegram : Bool → List ℕ → Happening V

-- a speed as it is written: lost, or the values of its digits
pub data Written : Type 0 where
  lost : Written
  digits : List ℕ → Written

-- the time, and what happened then
pub record Said : Type 0 where
  pub time : ℕ
  pub what : Happening Written

-- each number of the list is below the limit
abbrev pub Below : ℕ → List ℕ → Type 0
Below limit [] = Unit {0}
Below limit (n ∷ ns) = (n < limit) × Below limit ns

-- a speed has 1 to 3 digits
abbrev pub GoodSpeed : Written → Type 0
GoodSpeed lost = Unit {0}
GoodSpeed (digits ds) = (1 ≤ length ds) × (length ds ≤ 3) × Below 10 ds

-- and a telegram at most 104 bytes
abbrev pub GoodWhat : Happening Written → Type 0
GoodWhat tick = Unit {0}
GoodWhat (speed v) = GoodSpeed v
GoodWhat (pulse p) = Unit {0}
GoodWhat (lever l) = Unit {0}
GoodWhat (button b pressed) = Unit {0}
GoodWhat (telegram crc bytes) = (length bytes ≤ 104) × Below 256 bytes

-- what a line can say: the time has at most 10 digits
abbrev pub Good : Said → Type 0
Good s = (s.time ≤ 9999999999) × GoodWhat s.what
