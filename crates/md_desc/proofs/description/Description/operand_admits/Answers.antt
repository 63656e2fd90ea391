use Rattle.md_desc.proofs.Tabled.{number_admits_as}
use Rattle.md_desc.proofs.description.Description.operand_admits.Goals as goal

pub returns : goal.returns
returns c =
    number_admits_as c.args.self.now c.self.inside.forms c.self.inside.constraints c.self.inside.preds c.args.form c.args.alternative c.args.operands.now c.args.number c.args.x.now c.operand_admits.result c.self.view_is c.self.invariant.asks c.self.invariant.accepts c.operand_admits.ensures
