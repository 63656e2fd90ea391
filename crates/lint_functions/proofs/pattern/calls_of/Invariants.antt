use Rattle.std.proofs.Common.{◌≡◌, ◌++◌, map, drop}
use Rattle.lint_functions.specs.Patterns as spec
use Rattle.lint_functions.proofs.pattern.calls_of.Given as goal

abbrev pub invariant-loop-place : goal.invariant-loop-place
invariant-loop-place l = l.trees ++ map (spec.call_rtx) (drop l.place-index l.places) ≡ map (spec.call_rtx) l.places
