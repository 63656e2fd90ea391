use Rattle.std.proofs.Common.{sym, ◌∙◌, arith}
use Rattle.md_pred.specs.Holds.{holds}
use Rattle.lower_insn.proofs.Joined.{fits_go_on, fits_not}
use Rattle.lower_insn.proofs.fit.fitted.Goals as goal

pub returns-in-None : goal.returns-in-None
returns-in-None c =
    fits_not (holds c.args.desc.now) c.args.patterns.now c.args.held c.args.operands.now c.args.next c.loop-operand.so_far c.loop-operand.number c.loop-operand.operand-index c.operand-item.result
    (omega arith) c.operand-item.is (sym c.in-None.is ∙ c.in_ok-more.ensures) c.loop-operand.invariant

pub loop-operand-preserved : goal.loop-operand-preserved
loop-operand-preserved c =
    fits_go_on (holds c.args.desc.now) c.args.patterns.now c.args.held c.args.operands.now c.args.next c.loop-operand.so_far c.in-Some.more c.loop-operand.number c.in_ok-number.number
    c.loop-operand.operand-index c.operand-item.result (omega arith) c.operand-item.is (sym c.in-Some.is ∙ c.in_ok-more.ensures) c.in_ok-number.ensures c.loop-operand.invariant
