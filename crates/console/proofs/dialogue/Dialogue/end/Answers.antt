use Rattle.std.proofs.Common.{length, sym}
use Rattle.std.proofs.lemmas.List.{nil_from_length}
use Rattle.std.proofs.lemmas.Bool.{eqb-true}
use Rattle.few.specs.Items.{items}
use Rattle.console.proofs.dialogue.Dialogue.end.Goals as goal

pub returns-else-not-is_empty : goal.returns-else-not-is_empty
returns-else-not-is_empty g c =
    let line = items c.args.self.now.line in
    nil_from_length line (eqb-true (length line) 0 (sym c.if-not-is_empty.ensures))
