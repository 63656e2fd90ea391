use Rattle.std.proofs.Common.{◌≡◌, ◌++◌, drop}
use Rattle.std.specs.List.{flat_map}
use Rattle.lint_functions.specs.Patterns as spec
use Rattle.lint_functions.proofs.pattern.push_comparisons.Given as goal

abbrev pub invariant-loop-code : goal.invariant-loop-code
invariant-loop-code l = l.out ++ flat_map (λ c. spec.binaries c l.mode l.firsts l.seconds) (drop l.code-index l.codes) ≡ l.fn.out ++ flat_map (λ c. spec.binaries c l.mode l.firsts l.seconds) l.codes
