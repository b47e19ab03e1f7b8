use Rattle.std.proofs.Common.{Ok, rules}
use Rattle.events.proofs.Laws.{lawful, event_reads_back}
use Rattle.events.proofs.reader.read_event.Goals as goal

pub returns-in_err-said : goal.returns-in_err-said
returns-in_err-said c = record { reads = search rules; law = lawful c.args.line.now c.from_residual.result (search rules); back = event_reads_back }

pub returns-in_err-end : goal.returns-in_err-end
returns-in_err-end c = record { reads = search rules; law = lawful c.args.line.now c.from_residual-in_err-end.result (search rules); back = event_reads_back }

pub returns : goal.returns
returns c = record { reads = search rules; law = lawful c.args.line.now (Ok c.in_ok-said.said) (search rules); back = event_reads_back }
