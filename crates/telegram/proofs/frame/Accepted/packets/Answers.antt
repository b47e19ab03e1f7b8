use Rattle.std.proofs.Common.{◌≡◌, ◌+◌, ◌-◌, Ok, Err, Result, sym, ap, ◌∙◌, append-nil, length-append, arith, rules}
use Rattle.balise.specs.declared.faults.PacketFault.{PacketFault}
use Rattle.telegram.specs.Lists.{packets_of}
use Rattle.telegram.specs.Packets.{packets_by, packets_from}
use Rattle.telegram.specs.Telegrams.{packets_in}
use Rattle.telegram.specs.declared.packet.Found.{Found}
use Rattle.telegram.specs.declared.packet.Found.TheVariants.{End, Other, Tbl1}
use Rattle.telegram.proofs.Packets.{behind, behind_before, packet_part, turn_found}
use Rattle.telegram.proofs.frame.Accepted.packets.Goals as goal
use Rattle.telegram.proofs.frame.Accepted.packets.Goals.{After-read_packet, in-Other, in-Tbl1}

-- what was found at a turn decides the whole
turned : (c : After-read_packet) (found : Result Found PacketFault) → c.read_packet.result ≡ found
    → behind (packets_of c.loop.list) (packets_by found c.loop.at (λ next. packets_from (34 - (c.loop.counter + 1)) c.args.self.now.frame.bytes.now next c.telegram_bits-end.result))
    ≡ packets_in c.args.self.now.frame.bytes.now
turned c found is =
    turn_found c.args.self.now.frame.bytes.now c.loop.at c.telegram_bits-end.result 34 c.loop.counter (packets_of c.loop.list) _ found c.loop.invariant.whole c.loop-test.true (omega arith) (sym is ∙ c.read_packet.ensures.value ∙ packet_part _ _ _ _ _ _ c.new-reader.ensures.bytes (omega arith))

pub returns-in_err-read_packet-clause-value : goal.returns-in_err-read_packet-clause-value
returns-in_err-read_packet-clause-value c =
    let turn = turned (goal.at.returns-in_err-read_packet-clause-value c).After-read_packet (Err c.in_err-read_packet.field-0.0) c.in_err-read_packet.was in
    search rules

pub returns-in-End-clause-value : goal.returns-in-End-clause-value
returns-in-End-clause-value c =
    ap Ok (sym (append-nil (packets_of c.loop.list))) ∙ turned (goal.at.returns-in-End-clause-value c).After-read_packet (Ok End) (c.in_ok-read_packet.was ∙ ap Ok c.in-End.is)

pub loop-preserved : goal.loop-preserved
loop-preserved c =
    let here = (goal.at.loop-preserved c).After-read_packet in
    elim c.match-branch-2.branch [
      | in-Other w ↦
          let turn = turned here (Ok (Other w.in-Other.length)) (c.in_ok-read_packet.was ∙ ap Ok w.in-Other.is) in
          let fits = rw w.in-Other.is at c.in_ok-read_packet.ensures.within in
          rw (w.list-is, w.at-is) (record { whole = turn; room = omega arith; inside = omega arith })
      | in-Tbl1 w ↦
          let turn = turned here (Ok (Tbl1 w.in-Tbl1.packet)) (c.in_ok-read_packet.was ∙ ap Ok w.in-Tbl1.is) in
          let fits = rw w.in-Tbl1.is at c.in_ok-read_packet.ensures.within in
          let push = w.push.ensures.taken (omega arith) in
          rw (w.list-is, w.at-is, push.1) (record { whole = sym (behind_before _ _ _) ∙ turn; room = simp length-append (omega arith); inside = omega arith })
    ]
