use Rattle.std.proofs.Common.{◌≡◌, ◌++◌, drop}
use Rattle.lint_tried.specs.Tried as spec
use Rattle.lint_tried.proofs.tried.first_picks.Given as goal

abbrev pub invariant-loop-own : goal.invariant-loop-own
invariant-loop-own l = l.picks ++ spec.first_picks (drop l.own-index l.candidates) ≡ spec.first_picks l.candidates
