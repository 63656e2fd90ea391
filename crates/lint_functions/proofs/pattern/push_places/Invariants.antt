use Rattle.std.proofs.Common.{◌≡◌, ◌++◌, map, drop}
use Rattle.lint_functions.specs.Patterns as spec
use Rattle.lint_functions.proofs.pattern.push_places.Given as goal

abbrev pub invariant-loop-place : goal.invariant-loop-place
invariant-loop-place l = l.out ++ map (spec.set_to l.value) (drop l.place-index l.places) ≡ l.fn.out ++ map (spec.set_to l.value) l.places
