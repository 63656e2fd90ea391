use Rattle.std.proofs.Common.{◌≡◌, ◌++◌, drop}
use Rattle.lint_tried.specs.Tried as spec
use Rattle.lint_tried.proofs.tried.picked.Given as goal

abbrev pub invariant-loop-at : goal.invariant-loop-at
invariant-loop-at l = l.picked ++ spec.picked_from l.picks l.at (drop l.at l.candidates) ≡ spec.picked_from l.picks 0 l.candidates
