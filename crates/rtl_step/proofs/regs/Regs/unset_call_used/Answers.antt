use Rattle.std.proofs.Common.{sym, ap, ◌∙◌}
use Rattle.std.specs.FinMap.{remove}
use Rattle.rtl_step.proofs.Registers.{kept_none, kept_used, kept_other}
use Rattle.rtl_step.proofs.regs.Regs.unset_call_used.Goals as goal
use Rattle.rtl_step.proofs.regs.Regs.unset_call_used.Goals.{then-reg_call_used, else-reg_call_used}

pub loop-reg-init : goal.loop-reg-init
loop-reg-init c = kept_none _

pub loop-reg-preserved : goal.loop-reg-preserved
loop-reg-preserved c = elim c.if-reg_call_used.branch [
  | then-reg_call_used w ↦ kept_used c.args.self.now c.loop-reg.self _ c.loop-reg.reg (sym c.reg_call_used.ensures ∙ w.if-reg_call_used.true) (w.self-is ∙ w.unset.ensures ∙ ap (remove c.loop-reg.self) w.from.ensures) c.loop-reg.invariant
  | else-reg_call_used w ↦ w.self-is ∙ kept_other c.args.self.now c.loop-reg.self c.loop-reg.reg (sym c.reg_call_used.ensures ∙ w.if-reg_call_used.false) c.loop-reg.invariant
]
