use Rattle.std.proofs.Common.{◌≡◌, suc}
use Rattle.term_tree.specs.View.{tree_of}
use Rattle.term_cuts.specs.term_mean.Zero.{zero_test, equals_zero}
use Rattle.term_zero.proofs.OperatorLaws.{operators}
use Rattle.term_zero.proofs.zero.rounds.Given as goal

abbrev pub invariant-loop-term : goal.invariant-loop-term
invariant-loop-term l =
    zero_test (suc (operators (tree_of l.term))) l.width (tree_of l.term) ≡ equals_zero l.fn.w (tree_of l.fn.t)

abbrev pub decreases-loop-term : goal.decreases-loop-term
decreases-loop-term l = operators (tree_of l.term)
