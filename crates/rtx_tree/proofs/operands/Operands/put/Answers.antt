use Rattle.std.proofs.Common.{ap, ◌∙◌}
use Rattle.rtx_tree.specs.Operands.{operand_at}
use Rattle.rtx_tree.proofs.OperandLaws.{is_put, read_placed, read_other}
use Rattle.rtx_tree.proofs.operands.Operands.put.Goals as goal

pub returns-clause-ok : goal.returns-clause-ok
returns-clause-ok c = is_put _ _ _ c.args.number c.args.tree c.in_ok-insert.ensures.entries c.self.view_is

pub returns-clause-placed : goal.returns-clause-placed
returns-clause-placed c =
    ap (λ operands. operand_at operands c.args.number) (is_put _ _ _ c.args.number c.args.tree c.in_ok-insert.ensures.entries c.self.view_is)
    ∙ read_placed c.args.self.now c.args.number c.args.tree

pub returns-clause-others : goal.returns-clause-others
returns-clause-others c k other =
    ap (λ operands. operand_at operands k) (is_put _ _ _ c.args.number c.args.tree c.in_ok-insert.ensures.entries c.self.view_is)
    ∙ read_other c.args.self.now c.args.number c.args.tree k other
