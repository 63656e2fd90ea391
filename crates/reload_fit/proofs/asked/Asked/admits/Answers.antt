use Rattle.reload_fit.proofs.FittingLaws.{admits_nothing}
use Rattle.reload_fit.proofs.asked.Asked.admits.Goals as goal

pub returns : goal.returns
returns c = admits_nothing c.args.self.now.desc.now c.args.self.now.form c.args.self.now.constraints.now
    c.args.self.now.alternative c.args.number c.args.x.now c.new-nothing.result c.operand_admits.result
    c.operand_admits.ensures c.new-nothing.ensures
