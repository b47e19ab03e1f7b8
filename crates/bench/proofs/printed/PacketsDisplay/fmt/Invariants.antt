use Rattle.std.proofs.Common.{take}
use Rattle.std.specs.Fmt.{HasWritten, IsPlainFormatter}
use Rattle.bench.specs.Printed.{packets_text}
use Rattle.bench.proofs.printed.PacketsDisplay.fmt.Given as goal

-- the packets so far are written
abbrev pub invariant-loop-packet : goal.invariant-loop-packet
invariant-loop-packet g l = IsPlainFormatter l.initial.f → HasWritten g.W.Write.write_str_gives l.initial.f (packets_text (take l.packet-index l.packet-items)) l.f
