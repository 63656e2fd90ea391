use Rattle.std.proofs.Common.{◌≡◌, ◌++◌, drop}
use Rattle.lint_functions.specs.Functions as spec
use Rattle.lint_functions.proofs.sequence.numbered.Given as goal

abbrev pub invariant-loop-pattern : goal.invariant-loop-pattern
invariant-loop-pattern l = l.insns ++ spec.numbered l.uid (drop l.pattern-index l.patterns) ≡ spec.numbered 200 l.patterns
