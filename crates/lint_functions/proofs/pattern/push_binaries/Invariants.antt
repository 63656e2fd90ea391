use Rattle.std.proofs.Common.{◌≡◌, ◌++◌, map, drop}
use Rattle.std.specs.List.{flat_map}
use Rattle.lint_functions.specs.Patterns as spec
use Rattle.lint_functions.proofs.pattern.push_binaries.Given as goal

abbrev pub invariant-loop-first : goal.invariant-loop-first
invariant-loop-first l = l.out ++ flat_map (λ x. map (spec.binary l.code l.mode x) l.seconds) (drop l.first-index l.firsts) ≡ l.fn.out ++ flat_map (λ x. map (spec.binary l.code l.mode x) l.seconds) l.firsts
