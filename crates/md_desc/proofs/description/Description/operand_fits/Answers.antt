use Rattle.md_desc.proofs.Tabled.{number_fits_as}
use Rattle.md_desc.proofs.description.Description.operand_fits.Goals as goal

pub returns : goal.returns
returns c =
    number_fits_as c.args.self.now c.self.inside.forms c.self.inside.constraints c.self.inside.preds c.args.form c.args.alternative c.args.operands.now c.args.number c.operand_fits.result c.self.view_is c.self.invariant.asks c.self.invariant.accepts c.operand_fits.ensures
