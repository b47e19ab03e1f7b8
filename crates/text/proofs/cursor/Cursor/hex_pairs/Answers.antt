use Rattle.std.proofs.Common.{rules, arith}
use Rattle.std.proofs.lemmas.Grind.{common_steps}
use Rattle.text.proofs.Pairs.{left_pair, left_stops}
use Rattle.text.proofs.cursor.Cursor.hex_pairs.Goals as goal

pub loop-bytes-preserved : goal.loop-bytes-preserved
loop-bytes-preserved g c = record { goes_on = grind (arith, left_pair); same = search rules; few = grind (arith, common_steps) }

pub returns-in_err-byte : goal.returns-in_err-byte
returns-in_err-byte g c = grind (arith, left_stops)
