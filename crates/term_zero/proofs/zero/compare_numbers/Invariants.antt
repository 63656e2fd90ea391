use Rattle.std.proofs.Common.{◌≡◌, length}
use Rattle.term_tree.specs.Order.{numbers_cmp}
use Rattle.term_zero.proofs.zero.compare_numbers.Given as goal

abbrev pub invariant-loop-left : goal.invariant-loop-left
invariant-loop-left l = numbers_cmp l.left l.right ≡ numbers_cmp l.a l.b

abbrev pub decreases-loop-left : goal.decreases-loop-left
decreases-loop-left l = length l.left
