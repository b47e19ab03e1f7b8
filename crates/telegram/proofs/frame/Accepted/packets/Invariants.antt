use Rattle.std.proofs.Common.{◌≡◌, ◌+◌, ◌-◌, ◌*◌, ◌≤◌, length}
use Rattle.telegram.specs.Lists.{packets_of}
use Rattle.telegram.specs.Packets.{packets_from}
use Rattle.telegram.specs.Telegrams.{packets_in}
use Rattle.telegram.proofs.Packets.{behind}
use Rattle.telegram.proofs.frame.Accepted.packets.Given as goal

-- what was listed and what is still to come make the whole; each packet listed took 48 bits
abbrev pub invariant-loop : goal.invariant-loop
invariant-loop l = record {
  whole : behind (packets_of l.list) (packets_from (34 - l.counter) l.bytes l.at l.end) ≡ packets_in l.bytes;
  room : 50 + 48 * length (packets_of l.list) ≤ l.at;
  inside : l.at ≤ 830;
}
