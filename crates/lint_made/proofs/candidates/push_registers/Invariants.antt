use Rattle.std.proofs.Common.{◌≡◌, ◌++◌, drop}
use Rattle.lint_made.specs.Candidates as spec
use Rattle.lint_made.proofs.candidates.push_registers.Given as goal

abbrev pub invariant-loop-mode : goal.invariant-loop-mode
invariant-loop-mode l = l.out ++ spec.registers_of (drop l.mode-index l.modes) ≡ l.fn.out ++ spec.registers_of l.modes
