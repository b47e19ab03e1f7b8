use Rattle.std.proofs.Common.{◌*◌, rules}
use Rattle.std.proofs.lemmas.List.FromFn.{fill_by_all}
use Rattle.telegram.specs.Bits.{number}
use Rattle.writer.specs.Layouts.{laid_bit, laid_bytes}
use Rattle.writer.proofs.writing.laid.Goals as goal

pub returns : goal.returns
unfolding laid_bytes
returns c =
    let items = c.from_fn.ensures.items in
    fill_by_all (λ k. number (laid_bit c.args.fields.now) (8 * k) 8) c.from_fn.result 27 0 items.long (λ k h. let at = items.at k 0 h in let call = at.2 in search rules)
