use Rattle.std.proofs.Common.{◌≡◌, ◌-◌, length}
use Rattle.std.specs.List.{range_with_len, flat_map}
use Rattle.lint_choices.specs.Changes as spec
use Rattle.lint_choices.specs.machine.Within.{filled}
use Rattle.lint_choices.proofs.changes.push_twos.Given as goal

abbrev pub invariant-loop-second : goal.invariant-loop-second
invariant-loop-second l = filled l.changes (flat_map (spec.two_with l.picked) (range_with_len l.second (length l.picked - l.second))) ≡ filled l.fn.changes (spec.each_below (length l.picked) (spec.two_with l.picked))
