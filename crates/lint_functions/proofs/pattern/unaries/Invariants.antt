use Rattle.std.proofs.Common.{◌≡◌, ◌++◌, map, drop}
use Rattle.lint_functions.specs.Patterns as spec
use Rattle.lint_functions.proofs.pattern.unaries.Given as goal

abbrev pub invariant-loop-x : goal.invariant-loop-x
invariant-loop-x l = l.trees ++ map (spec.unary l.code l.mode) (drop l.x-index l.operands) ≡ map (spec.unary l.code l.mode) l.operands
