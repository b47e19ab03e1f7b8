-- The directions that Q_DIR names.
use Rattle.std.specs.Prelude.{◌≡◌, ℕ, List, [], ◌∷◌, ◌++◌, Option, Some, None, Result, MatchResult, codes}
use Rattle.std.specs.List.{slice_get}
use Rattle.balise.specs.Codes.{code_text}
use Rattle.balise.specs.declared.packet.Direction.{Direction}
use Rattle.balise.specs.declared.packet.NoDirection.{NoDirection}
use Rattle.balise.specs.declared.packet.Tbl1Packet.{Tbl1Packet}
use Rattle.balise.specs.declared.packet.Direction.TheVariants.{Reverse, Nominal, Both}

-- the directions, each at the place of its Q_DIR
abbrev pub directions : List Direction
directions = Reverse ∷ (Nominal ∷ (Both ∷ []))

-- the direction that Q_DIR names
abbrev pub direction_of : ℕ → Option Direction
direction_of n = slice_get directions n

-- the Q_DIR that names a direction
abbrev pub direction_value : Direction → ℕ
direction_value Reverse = 0
direction_value Nominal = 1
direction_value Both = 2

-- the direction of this Q_DIR, or that none has it
abbrev pub DirectionOf : ℕ → Result Direction NoDirection → Type 0
DirectionOf n r = MatchResult r (λ d. direction_of n ≡ Some d) (λ e. (direction_of n ≡ None) × (e.0 ≡ n))

-- the letter of a direction
abbrev pub direction_text : Direction → List ℕ
direction_text Reverse = codes "R"
direction_text Nominal = codes "N"
direction_text Both = codes "B"

-- a TBL1+ packet as it is written: the letter of its direction, and its code
abbrev pub packet_text : Tbl1Packet → List ℕ
packet_text p = direction_text p.direction ++ code_text p.code
