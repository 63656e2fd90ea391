use Rattle.std.proofs.Common.{◌≡◌, ◌++◌, drop}
use Rattle.std.specs.List.{flat_map}
use Rattle.lint_tried.specs.Offered as spec
use Rattle.lint_tried.proofs.offered.push_digits.Given as goal

abbrev pub invariant-loop-member : goal.invariant-loop-member
invariant-loop-member l = l.out ++ flat_map spec.digit_candidates (drop l.member-index l.members) ≡ l.fn.out ++ flat_map spec.digit_candidates l.members
