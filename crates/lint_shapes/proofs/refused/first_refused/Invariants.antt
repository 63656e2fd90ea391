use Rattle.lint_shapes.proofs.FirstLaws.{Continues}
use Rattle.lint_shapes.proofs.refused.first_refused.Given as goal

-- what is the first of the rest is the first of all
abbrev pub invariant-loop-at : goal.invariant-loop-at
invariant-loop-at l = Continues l.description l.group l.tries l.at
