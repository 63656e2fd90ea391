use Rattle.std.proofs.Common.{◌∙◌, ap}
use Rattle.std.specs.FinMap.{insert}
use Rattle.rtl_step.proofs.Registers.{map_insert}
use Rattle.rtl_step.proofs.regs.Regs.insert.Goals as goal

pub returns-clause-ok : goal.returns-clause-ok
returns-clause-ok c = map_insert c.self.inside.table c.insert.new.self c.args.reg c.args.known c.in_ok-insert.ensures.updates.0 ∙ ap (λ regs. insert regs c.args.reg c.args.known) c.self.view_is
