-- What the writer answers, and what it leaves in the buffer.
use Rattle.std.specs.Prelude.{ℕ, cond, List, ◌++◌, drop, Ok, Err, Result, nat_lt}
use Rattle.writer.specs.Drafts.{asked}
use Rattle.writer.specs.Layouts.{layout, laid_bytes}
use Rattle.writer.specs.declared.draft.Draft.{Draft}
use Rattle.writer.specs.declared.faults.WriteFault.{WriteFault}
use Rattle.writer.specs.declared.faults.WriteFault.TheVariants.{Short}

-- a buffer under 27 bytes is refused before the values are asked
abbrev pub write_answer : Draft → ℕ → Result (Unit {0}) WriteFault
write_answer d room = cond (nat_lt room 27) (Err Short) (asked d)

-- the telegram of a draft
abbrev pub written : Draft → List ℕ
written d = laid_bytes (layout d)

-- the telegram in the first 27 bytes, the others as they were; after a refusal all as they were
abbrev pub buffer_after : Result (Unit {0}) WriteFault → Draft → List ℕ → List ℕ
buffer_after (Ok u) d out = written d ++ drop 27 out
buffer_after (Err e) d out = out
