use Rattle.std.proofs.Common.{◌≡◌, ◌++◌, drop}
use Rattle.std.specs.List.{flat_map}
use Rattle.lint_made.specs.Candidates as spec
use Rattle.lint_made.proofs.candidates.push_operators.Given as goal

abbrev pub invariant-loop-code : goal.invariant-loop-code
invariant-loop-code l = l.out ++ flat_map (spec.operator_in l.mode) (drop l.code-index l.codes) ≡ l.fn.out ++ flat_map (spec.operator_in l.mode) l.codes
