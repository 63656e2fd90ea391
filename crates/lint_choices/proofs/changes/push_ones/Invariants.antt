use Rattle.std.proofs.Common.{◌≡◌, ◌-◌, length}
use Rattle.std.specs.List.{range_with_len, flat_map}
use Rattle.lint_choices.specs.Changes as spec
use Rattle.lint_choices.specs.machine.Within.{filled}
use Rattle.lint_choices.proofs.changes.push_ones.Given as goal

abbrev pub invariant-loop-operand : goal.invariant-loop-operand
invariant-loop-operand l = filled l.changes (flat_map (spec.one_at l.picked) (range_with_len l.operand (length l.picked - l.operand))) ≡ filled l.fn.changes (spec.each_below (length l.picked) (spec.one_at l.picked))
