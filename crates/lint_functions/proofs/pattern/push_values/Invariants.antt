use Rattle.std.proofs.Common.{◌≡◌, ◌++◌, map, drop}
use Rattle.rtx_tree.specs.Patterns.{set_rtx}
use Rattle.lint_functions.proofs.pattern.push_values.Given as goal

abbrev pub invariant-loop-value : goal.invariant-loop-value
invariant-loop-value l = l.out ++ map (set_rtx l.place) (drop l.value-index l.values) ≡ l.fn.out ++ map (set_rtx l.place) l.values
