use Rattle.std.proofs.Common.{rules}
use Rattle.group.proofs.Laws.{lawful}
use Rattle.group.proofs.memory.Memory.heard.Goals as goal

pub returns-in-Closed : goal.returns-in-Closed
returns-in-Closed c = lawful c.args.self c.args.message.header c.args.message.packets.now _ (search rules)

pub returns-in-Open : goal.returns-in-Open
returns-in-Open c = lawful c.args.self c.args.message.header c.args.message.packets.now _ (search rules)

pub returns-in_default : goal.returns-in_default
returns-in_default c = lawful c.args.self c.args.message.header c.args.message.packets.now _ (search rules)
