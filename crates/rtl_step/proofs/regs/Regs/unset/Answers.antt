use Rattle.std.proofs.Common.{◌∙◌, ap}
use Rattle.std.specs.FinMap.{remove}
use Rattle.rtl_step.proofs.Registers.{map_remove}
use Rattle.rtl_step.proofs.regs.Regs.unset.Goals as goal

pub returns : goal.returns
returns c = map_remove c.self.inside.table c.remove.new.self c.args.reg c.remove.ensures.updates.0 ∙ ap (λ regs. remove regs c.args.reg) c.self.view_is
