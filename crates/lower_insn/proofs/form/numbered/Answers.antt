use Rattle.std.proofs.Common.{ap, ◌∙◌, arith}
use Rattle.rtx_tree.specs.Operands.{put_at}
use Rattle.lower_insn.proofs.Numbered.{numbers_go_on}
use Rattle.lower_insn.proofs.form.numbered.Goals as goal

pub loop-operand-preserved : goal.loop-operand-preserved
loop-operand-preserved c =
    numbers_go_on c.args.operands.now c.loop-operand.numbered c.put.new.self c.loop-operand.number c.in_ok-number.number c.loop-operand.operand-index c.operand-item.result
    (omega arith) c.operand-item.is (c.in_ok-put.ensures.ok ∙ ap (put_at c.loop-operand.numbered c.loop-operand.number) c.in_ok-tree.ensures) c.in_ok-number.ensures
    c.loop-operand.invariant
