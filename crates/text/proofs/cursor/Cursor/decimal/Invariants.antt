use Rattle.std.proofs.Common.{◌≡◌, ◌≤◌, ◌-◌, length, drop, Ok}
use Rattle.text.specs.Parts.{digits_up, decimal_at}
use Rattle.text.proofs.cursor.Cursor.decimal.Given as goal

-- what is left of the line goes on a number of this value
abbrev pub invariant-loop-more : goal.invariant-loop-more
invariant-loop-more l = (decimal_at l.limit l.fn.self.line.now l.fn.self.place ≡ Ok (digits_up l.limit l.value (drop l.self.place l.self.line.now) l.self.place)) × (l.self.line.now ≡ l.fn.self.line.now) × (l.value ≤ l.limit)

abbrev pub decreases-loop-more : goal.decreases-loop-more
decreases-loop-more l = length l.self.line.now - l.self.place
