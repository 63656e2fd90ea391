use Rattle.std.proofs.Common.{◌≡◌, ◌-◌}
use Rattle.std.specs.List.{range_with_len, flat_map}
use Rattle.lint_choices.specs.Changes as spec
use Rattle.lint_choices.specs.machine.Within.{filled}
use Rattle.lint_choices.proofs.changes.push_each_two.Given as goal

abbrev pub invariant-loop-other : goal.invariant-loop-other
invariant-loop-other l = filled l.changes (flat_map (spec.two_by l.picked l.pair.second l.pair.first l.pair.candidate) (range_with_len l.other (spec.count_at l.picked l.pair.second - l.other))) ≡ filled l.fn.changes (spec.each_below (spec.count_at l.picked l.pair.second) (spec.two_by l.picked l.pair.second l.pair.first l.pair.candidate))
