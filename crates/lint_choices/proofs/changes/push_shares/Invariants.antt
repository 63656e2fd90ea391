use Rattle.std.proofs.Common.{◌≡◌, ◌-◌}
use Rattle.std.specs.List.{range_with_len, flat_map}
use Rattle.lint_choices.specs.Changes as spec
use Rattle.lint_choices.specs.machine.Within.{filled}
use Rattle.lint_choices.proofs.changes.push_shares.Given as goal

abbrev pub invariant-loop-second : goal.invariant-loop-second
invariant-loop-second l = filled l.changes (flat_map (spec.shared_with) (range_with_len l.second (l.operands - l.second))) ≡ filled l.fn.changes (spec.each_below (l.operands) (spec.shared_with))
