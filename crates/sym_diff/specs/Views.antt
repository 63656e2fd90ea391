-- What the code's own type is in the words of the definitions.
use Rattle.term_tree.specs.View.{tree_of}
use Rattle.sym_diff.specs.Difference as spec
use Rattle.sym_diff.specs.declared.difference.SymDifference.{SymDifference}
use Rattle.sym_diff.specs.declared.difference.SymDifference.TheVariants.{Differ, Lacks}

abbrev pub difference_of : SymDifference → spec.Difference
difference_of (Differ item left right) = spec.Differ item (tree_of left) (tree_of right)
difference_of (Lacks term) = spec.Lacks (tree_of term)
