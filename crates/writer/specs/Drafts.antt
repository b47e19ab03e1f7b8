-- What the writer is given, and the questions asked of it.
use Rattle.std.specs.Prelude.{cond, ◌||◌, Ok, Err, Result, ◌==◌, nat_lt}
use Rattle.refusal.specs.declared.layer.Layer.TheVariants.{Header as in_header, Text as in_text}
use Rattle.refusal.specs.declared.reason.Reason.TheVariants as reason
use Rattle.refusal.specs.declared.Refusal.{Refusal}
use Rattle.refusal.specs.Refusals.{refused}
use Rattle.writer.specs.Layouts.{layout, all_fit}
use Rattle.writer.specs.declared.draft.Draft.{Draft}
use Rattle.writer.specs.declared.faults.WriteFault.{WriteFault}
use Rattle.writer.specs.declared.faults.WriteFault.TheVariants.{Short, TooWide, NoTotal, Position, Direction, Digit}

-- reason, place and layer of each fault of the writer
abbrev pub write_refusal : WriteFault → Refusal
write_refusal Short = refused reason.Short 0 in_text
write_refusal TooWide = refused reason.Value 0 in_header
write_refusal NoTotal = refused reason.Value 0 in_header
write_refusal Position = refused reason.Value 0 in_header
write_refusal Direction = refused reason.Value 0 in_header
write_refusal Digit = refused reason.Value 0 in_header

-- no value is too wide, or one with which no telegram is accepted
unfoldable pub asked : Draft → Result (Unit {0}) WriteFault
asked d =
    cond (all_fit (layout d)) (
    cond (d.total == 0) (Err NoTotal) (
    cond (nat_lt d.total d.position) (Err Position) (
    cond (d.direction == 3) (Err Direction) (
    cond (nat_lt 10 d.first || nat_lt 10 d.second) (Err Digit)
    (Ok tt)))))
    (Err TooWide)
