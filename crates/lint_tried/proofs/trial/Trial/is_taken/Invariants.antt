use Rattle.std.proofs.Common.{◌≡◌, drop}
use Rattle.std.specs.List.{list_any}
use Rattle.rv_regs.specs.Registers.{allocation_order}
use Rattle.lint_tried.specs.Offered as spec
use Rattle.lint_tried.specs.machine.Views.{trial_of}
use Rattle.lint_tried.proofs.trial.Trial.is_taken.Given as goal

-- what is left has the answer
abbrev pub invariant-loop-reg : goal.invariant-loop-reg
invariant-loop-reg l = list_any (spec.takes_over (trial_of l.self) l.placeholder l.candidate) (drop l.reg-index l.reg-items) ≡ list_any (spec.takes_over (trial_of l.self) l.placeholder l.candidate) allocation_order
