-- What the code's own types are in the words of the definitions.
use Rattle.term_tree.specs.View.{tree_of}
use Rattle.term_cuts.specs.term_mean.Stores.{Store}
use Rattle.sym_term.specs.declared.stores.SymStore.{SymStore}

abbrev pub store_of : SymStore → Store
store_of s = (tree_of s.address, tree_of s.value)
