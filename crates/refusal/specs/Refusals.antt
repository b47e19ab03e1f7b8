-- What a refused call gives back.
use Rattle.std.specs.Prelude.{codes, decimal, List, ℕ, ◌++◌}
use Rattle.refusal.specs.declared.layer.Layer.{Layer}
use Rattle.refusal.specs.declared.layer.Layer.TheVariants.{Unit, Frame, Header, Packet, Log, Text}
use Rattle.refusal.specs.declared.reason.Reason.{Reason}
use Rattle.refusal.specs.declared.reason.Reason.TheVariants as reason
use Rattle.refusal.specs.declared.Refusal.{Refusal}

-- the refusal for this reason, at this place, in this layer
abbrev pub refused : Reason → ℕ → Layer → Refusal
refused r p l = record { reason = r; place = p; layer = l }

-- the number under which a call is refused for a reason
abbrev pub number_of : Reason → ℕ
number_of reason.Time = 1
number_of reason.Setting = 2
number_of reason.Speed = 3
number_of reason.Control = 4
number_of reason.Frame = 5
number_of reason.Crc = 6
number_of reason.Header = 7
number_of reason.Position = 8
number_of reason.OtherTotal = 9
number_of reason.Bounds = 10
number_of reason.Packet = 11
number_of reason.Full = 12
number_of reason.Absent = 13
number_of reason.Line = 14
number_of reason.Short = 15
number_of reason.Value = 16
number_of (reason.Other n) = n

-- a layer's name as it is printed
abbrev pub layer_name : Layer → List ℕ
layer_name Unit = codes "unit"
layer_name Frame = codes "frame"
layer_name Header = codes "header"
layer_name Packet = codes "packet"
layer_name Log = codes "log"
layer_name Text = codes "text"

-- a refusal as it is printed: E, then number, place and layer, each behind a comma
abbrev pub refusal_text : Refusal → List ℕ
refusal_text r = codes "E," ++ decimal (number_of r.reason) ++ codes "," ++ decimal r.place ++ codes "," ++ layer_name r.layer
