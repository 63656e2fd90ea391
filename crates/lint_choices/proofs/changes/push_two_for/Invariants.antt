use Rattle.std.proofs.Common.{◌≡◌, ◌-◌}
use Rattle.std.specs.List.{range_with_len, flat_map}
use Rattle.lint_choices.specs.Changes as spec
use Rattle.lint_choices.specs.machine.Within.{filled}
use Rattle.lint_choices.proofs.changes.push_two_for.Given as goal

abbrev pub invariant-loop-candidate : goal.invariant-loop-candidate
invariant-loop-candidate l = filled l.changes (flat_map (spec.two_at l.picked l.second l.first) (range_with_len l.candidate (spec.count_at l.picked l.first - l.candidate))) ≡ filled l.fn.changes (spec.each_below (spec.count_at l.picked l.first) (spec.two_at l.picked l.second l.first))
