use Rattle.std.proofs.Common.{◌≡◌, ◌++◌, drop}
use Rattle.std.specs.List.{flat_map}
use Rattle.rtx_tree.specs.Tree.{head_of}
use Rattle.lint_tried.specs.Offered as spec
use Rattle.lint_tried.specs.machine.Views.{trial_of}
use Rattle.lint_tried.proofs.trial.Trial.push_digits_at.Given as goal

abbrev pub invariant-loop-constraint : goal.invariant-loop-constraint
invariant-loop-constraint l = l.out ++ flat_map (spec.digits_of l.self.alternative (head_of l.placeholder).number) (drop l.constraint-index l.constraint-items) ≡ l.fn.out ++ spec.digits_at (trial_of l.self) l.placeholder
