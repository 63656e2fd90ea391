use Rattle.std.proofs.Common.{◌≡◌, ◌++◌, drop}
use Rattle.std.specs.List.{flat_map}
use Rattle.lint_tried.specs.Numbers as spec
use Rattle.lint_tried.proofs.numbers.+push_test.Given as goal

abbrev pub invariant-loop-part : goal.invariant-loop-part
invariant-loop-part l = l.out ++ flat_map spec.test_numbers (drop l.part-index l.part-items) ≡ l.fn.out ++ spec.test_numbers l.test
