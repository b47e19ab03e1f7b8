use Rattle.std.proofs.Common.{rules}
use Rattle.group.proofs.Storings.{no_codes_by}
use Rattle.group.proofs.memory.OpenGroup.begin.Goals as goal

pub returns : goal.returns
returns c = let none = no_codes_by c.default.result (search rules) (search rules) in cc
