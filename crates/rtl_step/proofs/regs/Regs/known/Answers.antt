use Rattle.std.proofs.Common.{◌∙◌, ap, sym}
use Rattle.std.specs.FinMap.{get}
use Rattle.rtl_step.proofs.Registers.{map_get}
use Rattle.rtl_step.proofs.regs.Regs.known.Goals as goal

pub returns : goal.returns
returns c = c.copied.ensures ∙ c.get.ensures.value ∙ sym (map_get c.self.inside.table c.args.reg) ∙ ap (λ regs. get regs c.args.reg) c.self.view_is
