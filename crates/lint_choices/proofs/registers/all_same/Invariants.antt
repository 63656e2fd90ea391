use Rattle.std.proofs.Common.{◌≡◌, ◌++◌, drop}
use Rattle.lint_choices.specs.Registers as spec
use Rattle.lint_choices.proofs.registers.all_same.Given as goal

abbrev pub invariant-loop-slot : goal.invariant-loop-slot
invariant-loop-slot l = l.same ++ spec.all_same l.reg (drop l.slot-index l.regs) ≡ spec.all_same l.reg l.regs
