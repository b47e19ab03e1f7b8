use Rattle.std.proofs.Common.{rules, append_assoc}
use Rattle.std.proofs.Output.{has_written_append}
use Rattle.balise.specs.Headers.{front_text, back_text}
use Rattle.balise.proofs.header.HeaderDisplay.fmt.Goals as goal

pub returns-clause-writes : goal.returns-clause-writes
returns-clause-writes g c p ok = has_written_append _ _ (front_text c.args.self.now) c.write.new.self (back_text c.args.self.now) _ (search (rules, append_assoc)) (search (rules, append_assoc))
