-- What is printed.
use Rattle.std.specs.Prelude.{ℕ, List, ◌++◌, Option, Some, None, codes, decimal}
use Rattle.std.specs.List.{flat_map}
use Rattle.balise.specs.Codes.{code_text}
use Rattle.balise.specs.Directions.{packet_text}
use Rattle.balise.specs.Headers.{header_text}
use Rattle.balise.specs.declared.code.Code.{Code}
use Rattle.balise.specs.declared.packet.Tbl1Packet.{Tbl1Packet}
use Rattle.bench.specs.declared.answer.Answer.{Answer}
use Rattle.bench.specs.declared.answer.Answer.TheVariants.{Written, Reading, Open, Closed, PassedOver, NoGroup}
use Rattle.group.specs.Printed.{travel_text, group_text}
use Rattle.group.specs.declared.codes.Travel.{Travel}
use Rattle.group.specs.declared.memory.OpenGroup.{OpenGroup}
use Rattle.telegram.specs.Lists.{packets_of}
use Rattle.telegram.specs.declared.reading.Telegram.{Telegram}
use Rattle.text.specs.Hexes.{hex_text}

-- a value as it is printed, or the mark that stands where there is none
abbrev pub or_mark_text : {T : Type 0} → (T → Option (List ℕ)) → Option T → List ℕ → Option (List ℕ)
or_mark_text text (Some value) mark = text value
or_mark_text text None mark = Some mark

-- a code, or two marks where there is none
abbrev pub stored_text : Option Code → List ℕ
stored_text (Some c) = code_text c
stored_text None = codes "--"

-- a direction of travel, or a mark where it is not known
abbrev pub known_text : Option Travel → List ℕ
known_text (Some t) = travel_text t
known_text None = codes "-"

-- a comma in front of each packet
abbrev pub packets_text : List Tbl1Packet → List ℕ
packets_text ps = flat_map (λ p. codes "," ++ packet_text p) ps

-- H, the header and the packets
abbrev pub reading_text : Telegram → List ℕ
reading_text t = codes "H," ++ header_text t.header ++ packets_text (packets_of t.packets)

-- what an open group's first telegram said
abbrev pub opened_text : OpenGroup → List ℕ
opened_text g = codes "O," ++ (group_text g.id ++ (codes "," ++ (decimal g.total ++ (codes "," ++ (decimal g.first ++ codes ",")))))

-- the direction and the codes of an open group
abbrev pub stored_codes_text : OpenGroup → List ℕ
stored_codes_text g = known_text g.travel ++ (codes "," ++ (stored_text g.codes.nominal ++ (codes "," ++ stored_text g.codes.reverse)))

-- an open group
abbrev pub gathered_text : OpenGroup → List ℕ
gathered_text g = opened_text g ++ stored_codes_text g

-- an answer as it is printed
abbrev pub answer_text : Answer → List ℕ
answer_text (Written t) = hex_text t
answer_text (Reading t) = reading_text t
answer_text (Open g) = gathered_text g
answer_text (Closed id code) = codes "C," ++ group_text id ++ codes "," ++ stored_text code
answer_text (PassedOver id) = codes "P," ++ group_text id
answer_text NoGroup = codes "F"
