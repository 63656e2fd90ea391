use Rattle.std.proofs.Common.{◌≡◌}
use Rattle.std.specs.FinMap.{retain_keys}
use Rattle.rtl_step.proofs.Registers.{stays}
use Rattle.rtl_step.proofs.regs.Regs.unset_call_used.Given as goal

abbrev pub invariant-loop-reg : goal.invariant-loop-reg
invariant-loop-reg l = l.self ≡ retain_keys l.initial.self (stays l.reg)
