use Rattle.std.proofs.Common.{◌≡◌}
use Rattle.telegram.specs.Bits.{field}
use Rattle.telegram.proofs.bits.BitReader.take.Given as goal

abbrev pub invariant-loop-k : goal.invariant-loop-k
invariant-loop-k l = l.value ≡ field l.self.bytes.now l.self.place l.k
