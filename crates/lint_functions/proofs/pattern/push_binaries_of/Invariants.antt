use Rattle.std.proofs.Common.{◌≡◌, ◌++◌, map, drop}
use Rattle.lint_functions.specs.Patterns as spec
use Rattle.lint_functions.proofs.pattern.push_binaries_of.Given as goal

abbrev pub invariant-loop-second : goal.invariant-loop-second
invariant-loop-second l = l.out ++ map (spec.binary l.code l.mode l.first) (drop l.second-index l.seconds) ≡ l.fn.out ++ map (spec.binary l.code l.mode l.first) l.seconds
