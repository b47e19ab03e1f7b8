-- What an answer says.
use Rattle.std.specs.Prelude.{Some, None, Ok, Err, Option, Result}
use Rattle.balise.specs.declared.code.Code.{Code}
use Rattle.balise.specs.declared.faults.FrameFault.{FrameFault}
use Rattle.balise.specs.Faults.{frame_refusal}
use Rattle.telegram.specs.Lists.{packets_of}
use Rattle.telegram.specs.Telegrams.{Reading as Read}
use Rattle.bench.specs.declared.answer.Answer.{Answer}
use Rattle.bench.specs.declared.answer.Answer.TheVariants.{Written, Reading, Open, Closed, PassedOver, NoGroup}
use Rattle.group.specs.declared.memory.Memory.{Memory}
use Rattle.group.specs.declared.memory.Memory.TheVariants as memory
use Rattle.refusal.specs.declared.Refusal.{Refusal}
use Rattle.writer.specs.Drafts.{asked, write_refusal}
use Rattle.writer.specs.Writing.{written}
use Rattle.writer.specs.declared.draft.Draft.{Draft}
use Rattle.writer.specs.declared.faults.WriteFault.{WriteFault}

-- the group memory after a line that is answered so, from the memory before it; one that asks nothing of the group leaves it
abbrev pub memory_after : Answer → Memory → Memory
memory_after (Written t) before = before
memory_after (Reading t) before = before
memory_after (Open g) before = memory.Open g
memory_after (Closed id code) before = memory.Closed id
memory_after (PassedOver id) before = memory.Closed id
memory_after NoGroup before = memory.Empty

-- the group memory after a line; a refused line leaves it
abbrev pub memory_left : Result Answer Refusal → Memory → Memory
memory_left (Ok answer) before = memory_after answer before
memory_left (Err r) before = before

-- the answer to a telegram that was heard, from the memory before it, the memory after it and the code that is acted on
abbrev pub heard_answer : Memory → Memory → Option Code → Answer
heard_answer before memory.Empty code = NoGroup
heard_answer before (memory.Open g) code = Open g
heard_answer memory.Empty (memory.Closed id) code = Closed id code
heard_answer (memory.Open g) (memory.Closed id) code = Closed id code
heard_answer (memory.Closed was) (memory.Closed id) code = PassedOver id

-- a reading, or the refusal of a fault
abbrev pub answer_of : Result Read FrameFault → Result Read Refusal
answer_of (Ok r) = Ok r
answer_of (Err e) = Err (frame_refusal e)

-- what an answer says of a telegram that was read
abbrev pub read_in : Answer → Option (Result Read Refusal)
read_in (Written t) = None
read_in (Reading t) = Some (Ok (record { header = t.header; packets = packets_of t.packets }))
read_in (Open g) = None
read_in (Closed id code) = None
read_in (PassedOver id) = None
read_in NoGroup = None

-- what the answer to a line says of a telegram that was read: the reading or the refusal
abbrev pub read_by : Result Answer Refusal → Option (Result Read Refusal)
read_by (Ok answer) = read_in answer
read_by (Err r) = Some (Err r)

abbrev pub written_or : Result (Unit {0}) WriteFault → Draft → Result Answer Refusal
written_or (Ok u) d = Ok (Written (written d))
written_or (Err e) d = Err (write_refusal e)

-- the answer to a draft: its telegram, or the refusal of what is wrong with it
abbrev pub written_answer : Draft → Result Answer Refusal
written_answer d = written_or (asked d) d
