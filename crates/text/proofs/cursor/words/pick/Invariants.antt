use Rattle.std.proofs.Common.{◌≡◌, ◌≤◌, length, drop}
use Rattle.text.specs.Parts.{picked_or_reach}
use Rattle.text.proofs.Loops.{chooses}
use Rattle.text.proofs.cursor.words.pick.Given as goal

-- the words so far do not stand here, and `far` is the most that one of them reached
abbrev pub invariant-loop-value : goal.invariant-loop-value
invariant-loop-value g l = chooses g.T.Table.word l.far (drop l.value-index l.values) l.text ≡ picked_or_reach g.T.Table.word l.values l.text × l.far ≤ length l.text
