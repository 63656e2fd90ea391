use Rattle.std.proofs.Common.{◌≡◌, map}
use Rattle.term_tree.specs.View.{tree_of}
use Rattle.term_cuts.specs.term_mean.Loads.{source}
use Rattle.sym_term.specs.Views.{store_of}
use Rattle.sym_term.proofs.loads.source.Given as goal

abbrev pub invariant-loop-number : goal.invariant-loop-number
invariant-loop-number l =
    source (map store_of l.stores) l.w (tree_of l.a) l.number ≡ source (map store_of l.stores) l.w (tree_of l.a) l.n

abbrev pub decreases-loop-number : goal.decreases-loop-number
decreases-loop-number l = l.number
