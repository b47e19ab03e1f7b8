use Rattle.std.proofs.Common.{rules, arith, ap, ◌≡◌, [], ◌∷◌, ◌++◌, take}
use Rattle.std.proofs.lemmas.List.{length-take}
use Rattle.few.specs.Items.{items}
use Rattle.console.proofs.Keeping.{keeps}
use Rattle.console.proofs.dialogue.Dialogue.take.Goals as goal

pub returns-then-byte-ne-LINE_END : goal.returns-then-byte-ne-LINE_END
returns-then-byte-ne-LINE_END g c =
    let kept : items c.push.new.self ≡ take 256 (items c.args.self.now.line ++ c.args.byte ∷ []) = keeps (items c.args.self.now.line) (items c.push.new.self) 256 c.args.byte (simp length-take (omega (arith, c.args.self.now.line.within))) (λ l. (c.push.ensures.taken l).1) (λ l. ap items (c.push.ensures.refused l).1) in
    search rules
