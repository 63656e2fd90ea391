use Rattle.std.proofs.Common.{◌≡◌, ◌++◌, drop}
use Rattle.std.specs.List.{flat_map}
use Rattle.lint_made.specs.Candidates as spec
use Rattle.lint_made.proofs.candidates.push_each_memory.Given as goal

abbrev pub invariant-loop-mode : goal.invariant-loop-mode
invariant-loop-mode l = l.out ++ flat_map spec.memory_of (drop l.mode-index l.modes) ≡ l.fn.out ++ flat_map spec.memory_of l.modes
