use Rattle.std.proofs.Common.{◌≡◌, ◌-◌}
use Rattle.std.specs.List.{range_with_len, flat_map}
use Rattle.lint_choices.specs.Changes as spec
use Rattle.lint_choices.specs.machine.Within.{filled}
use Rattle.lint_choices.proofs.changes.push_two_with.Given as goal

abbrev pub invariant-loop-first : goal.invariant-loop-first
invariant-loop-first l = filled l.changes (flat_map (spec.two_for l.picked l.second) (range_with_len l.first (l.second - l.first))) ≡ filled l.fn.changes (spec.each_below (l.second) (spec.two_for l.picked l.second))
