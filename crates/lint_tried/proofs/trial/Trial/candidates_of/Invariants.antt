use Rattle.std.proofs.Common.{◌≡◌, ◌++◌, drop, map}
use Rattle.lint_tried.specs.Offered as spec
use Rattle.lint_tried.specs.machine.Views.{trial_of}
use Rattle.lint_tried.proofs.trial.Trial.candidates_of.Given as goal

abbrev pub invariant-loop-giver : goal.invariant-loop-giver
invariant-loop-giver l = l.candidates ++ map (spec.candidates_at (trial_of l.self) (spec.looked_at (trial_of l.self) l.tested)) (drop l.giver-index l.givers) ≡ map (spec.candidates_at (trial_of l.self) (spec.looked_at (trial_of l.self) l.tested)) l.givers
