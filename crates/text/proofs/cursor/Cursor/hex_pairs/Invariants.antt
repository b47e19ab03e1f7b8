use Rattle.std.proofs.Common.{◌≡◌, ◌-◌, ◌≤◌, length}
use Rattle.few.specs.Items.{items}
use Rattle.text.specs.Pairs.{pairs_at}
use Rattle.text.proofs.Pairs.{left}
use Rattle.text.proofs.cursor.Cursor.hex_pairs.Given as goal

-- what is left of the line goes on these bytes
abbrev pub invariant-loop-bytes : goal.invariant-loop-bytes
invariant-loop-bytes g l = record {
  goes_on : left g.row.N (items l.bytes) l.self.line.now l.self.place ≡ pairs_at g.row.N l.fn.self.line.now l.fn.self.place;
  same : l.self.line.now ≡ l.fn.self.line.now;
  few : length (items l.bytes) ≤ g.row.N;
}

abbrev pub decreases-loop-bytes : goal.decreases-loop-bytes
decreases-loop-bytes g l = length l.self.line.now - l.self.place
