use Rattle.std.proofs.Common.{◌≡◌, ◌++◌, drop}
use Rattle.std.specs.List.{flat_map}
use Rattle.lint_groups.specs.Groups as spec
use Rattle.lint_groups.proofs.group.push_kept.Given as goal

abbrev pub invariant-loop-mode : goal.invariant-loop-mode
invariant-loop-mode l = l.out ++ flat_map spec.kept_in (drop l.mode-index l.modes) ≡ l.fn.out ++ flat_map spec.kept_in l.modes
