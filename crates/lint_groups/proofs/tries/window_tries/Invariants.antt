use Rattle.std.proofs.Common.{◌≡◌, ◌++◌, drop}
use Rattle.std.specs.List.{flat_map}
use Rattle.lint_groups.specs.Groups as spec
use Rattle.lint_groups.proofs.tries.window_tries.Given as goal

abbrev pub invariant-loop-window : goal.invariant-loop-window
invariant-loop-window l = l.tries ++ flat_map spec.window_tries (drop l.window-index l.windows) ≡ flat_map spec.window_tries l.windows
