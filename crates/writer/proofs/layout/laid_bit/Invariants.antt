use Rattle.std.proofs.Common.{◌≡◌, drop}
use Rattle.writer.specs.Layouts.{laid_bit}
use Rattle.writer.proofs.layout.laid_bit.Given as goal

abbrev pub invariant-loop-field : goal.invariant-loop-field
invariant-loop-field l = laid_bit (drop l.field-index l.fields) l.left ≡ laid_bit l.fields l.place
