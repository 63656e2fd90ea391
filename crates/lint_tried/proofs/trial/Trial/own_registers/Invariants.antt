use Rattle.std.proofs.Common.{◌≡◌, ◌++◌, drop, filter}
use Rattle.rv_regs.specs.Registers.{allocation_order}
use Rattle.lint_tried.specs.Offered as spec
use Rattle.lint_tried.specs.machine.Views.{trial_of}
use Rattle.lint_tried.proofs.trial.Trial.own_registers.Given as goal

abbrev pub invariant-loop-reg : goal.invariant-loop-reg
invariant-loop-reg l = l.regs ++ filter (spec.takes_over (trial_of l.self) l.placeholder l.candidate) (drop l.reg-index l.reg-items) ≡ filter (spec.takes_over (trial_of l.self) l.placeholder l.candidate) allocation_order
