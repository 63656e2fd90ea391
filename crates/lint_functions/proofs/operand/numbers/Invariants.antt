use Rattle.std.proofs.Common.{◌≡◌, ◌++◌, map, drop}
use Rattle.lint_made.specs.declared.candidate.Candidate.TheVariants as candidate
use Rattle.lint_functions.proofs.operand.numbers.Given as goal

abbrev pub invariant-loop-number : goal.invariant-loop-number
invariant-loop-number l = l.out ++ map (candidate.Number) (drop l.number-index l.numbers) ≡ map (candidate.Number) l.numbers
