use Rattle.std.proofs.Common.{◌≡◌, ◌++◌, map, drop}
use Rattle.lint_functions.specs.Functions as spec
use Rattle.lint_functions.proofs.kept.push_loads.Given as goal

abbrev pub invariant-loop-k : goal.invariant-loop-k
invariant-loop-k l = l.out ++ map (spec.load l.mode) (drop l.k-index l.kept) ≡ l.fn.out ++ map (spec.load l.mode) l.kept
