use Rattle.lint_shapes.proofs.FirstLaws.{Goes}
use Rattle.lint_shapes.proofs.refused.told_among.Given as goal

-- what is told of the rest is told of all
abbrev pub invariant-loop-group : goal.invariant-loop-group
invariant-loop-group l = Goes l.description l.tested l.groups l.group-index l.told
