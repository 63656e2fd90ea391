use Rattle.std.proofs.Common.{◌≡◌, ◌++◌, map, drop}
use Rattle.lint_windows.specs.Windows as spec
use Rattle.lint_windows.proofs.windows.first_picked.Given as goal

abbrev pub invariant-loop-own : goal.invariant-loop-own
invariant-loop-own l = l.picked ++ map spec.first_picked (drop l.own-index l.candidates) ≡ map spec.first_picked l.candidates
