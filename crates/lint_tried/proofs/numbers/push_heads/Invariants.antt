use Rattle.std.proofs.Common.{◌≡◌, ◌++◌, drop}
use Rattle.std.specs.List.{flat_map}
use Rattle.lint_tried.specs.Numbers as spec
use Rattle.lint_tried.proofs.numbers.push_heads.Given as goal

abbrev pub invariant-loop-head : goal.invariant-loop-head
invariant-loop-head l = l.out ++ flat_map spec.head_numbers (drop l.head-index l.heads) ≡ l.fn.out ++ flat_map spec.head_numbers l.heads
