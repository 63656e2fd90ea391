use Rattle.std.proofs.Common.{◌≡◌, drop}
use Rattle.lint_why.specs.Why.{without_from}
use Rattle.lint_why.proofs.why.first_without.Given as goal

abbrev pub invariant-loop-at : goal.invariant-loop-at
invariant-loop-at l = without_from l.candidates l.at (drop l.at l.givers) ≡ without_from l.candidates 0 l.givers
