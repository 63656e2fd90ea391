use Rattle.std.proofs.Common.{ap, ◌∙◌}
use Rattle.rtx_tree.specs.Operands.{operand_at}
use Rattle.rtx_tree.proofs.OperandLaws.{found}
use Rattle.rtx_tree.proofs.operands.Operands.get.Goals as goal

pub returns : goal.returns
returns c = c.get.ensures.value ∙ found c.self.inside.trees.entries c.args.number ∙ ap (λ operands. operand_at operands c.args.number) c.self.view_is
