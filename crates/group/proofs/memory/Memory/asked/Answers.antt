use Rattle.std.proofs.Common.{rules}
use Rattle.group.proofs.Questions.{lawful}
use Rattle.group.proofs.memory.Memory.asked.Goals as goal

pub returns : goal.returns
returns c = lawful c.args.self c.args.header _ (search rules)

pub returns-2 : goal.returns-2
returns-2 c = lawful c.args.self c.args.header _ (search rules)
