use Rattle.std.proofs.Common.{◌≡◌, max, length, sym, ap, ◌∙◌, rules, arith}
use Rattle.text.proofs.Loops.{chooses_this, chooses_later, far_enough}
use Rattle.text.proofs.cursor.words.pick.Goals as goal

pub returns-then-count-word : goal.returns-then-count-word
returns-then-count-word g c = record {
  value = sym (chooses_this g.T.Table.word c.loop-value.far _ _ _ _ _ _ c.loop-value-test.true (sym c.value-item.is) c.text-word.ensures c.alike-count.ensures c.if-count-word.true) ∙ c.loop-value.invariant.0;
  within = omega (arith, c.if-count-word.true, ap length c.text-word.ensures, far_enough g.T.Table.word c.loop-value.far _ _ _ _ _ _ c.loop-value-test.true (sym c.value-item.is) c.text-word.ensures c.alike-count.ensures c.loop-value.invariant.1);
}

pub loop-value-preserved : goal.loop-value-preserved
loop-value-preserved g c =
    let far = far_enough g.T.Table.word c.loop-value.far _ _ _ _ _ _ c.loop-value-test.true (sym c.value-item.is) c.text-word.ensures c.alike-count.ensures c.loop-value.invariant.1 in
    let later = chooses_later g.T.Table.word c.loop-value.far _ _ _ _ _ _ c.loop-value-test.true (sym c.value-item.is) c.text-word.ensures c.alike-count.ensures c.if-count-word.false in
    let most : c.max-far.result ≡ max c.loop-value.far c.alike-count.result = search rules in
    rw most (later ∙ c.loop-value.invariant.0, far)
