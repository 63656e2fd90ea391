use Rattle.std.proofs.Common.{◌≡◌, ◌++◌, drop}
use Rattle.std.specs.List.{flat_map}
use Rattle.lint_made.specs.Made as spec
use Rattle.lint_made.proofs.placeholders.+giving.Given as goal

abbrev pub invariant-push_each_giver-loop-pattern : goal.invariant-push_each_giver-loop-pattern
invariant-push_each_giver-loop-pattern l = l.out ++ flat_map spec.givers (drop l.pattern-index l.patterns) ≡ l.fn.out ++ flat_map spec.givers l.patterns
