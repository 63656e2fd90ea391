use Rattle.std.proofs.Common.{◌≡◌, ◌++◌, map, drop}
use Rattle.lint_made.specs.Candidates.{tree_with}
use Rattle.lint_functions.proofs.operand.trees_of.Given as goal

abbrev pub invariant-loop-candidate : goal.invariant-loop-candidate
invariant-loop-candidate l = l.trees ++ map (tree_with l.reg) (drop l.candidate-index l.candidates) ≡ map (tree_with l.reg) l.candidates
