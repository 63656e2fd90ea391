use Rattle.std.proofs.Common.{◌≡◌, ◌-◌}
use Rattle.std.specs.List.{range_with_len, flat_map}
use Rattle.lint_choices.specs.Changes as spec
use Rattle.lint_choices.specs.machine.Within.{filled}
use Rattle.lint_choices.proofs.changes.push_one_at.Given as goal

abbrev pub invariant-loop-candidate : goal.invariant-loop-candidate
invariant-loop-candidate l = filled l.changes (flat_map (spec.one_by l.picked l.operand) (range_with_len l.candidate (spec.count_at l.picked l.operand - l.candidate))) ≡ filled l.fn.changes (spec.each_below (spec.count_at l.picked l.operand) (spec.one_by l.picked l.operand))
