use Rattle.md_forms.proofs.NumberLaws.{has_more}
use Rattle.md_forms.proofs.operands.OperandNumbers.of.Goals as goal

pub loop-at-preserved : goal.loop-at-preserved
loop-at-preserved c =
    has_more c.args.all c.loop-at.at c.item.result.now c.loop-at.sorted c.insert.new.self c.loop-at-test.true c.item.ensures c.loop-at.invariant c.in_ok-insert.ensures.updates.0
