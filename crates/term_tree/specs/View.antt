-- The tree that a term of the code is.
use Rattle.term_tree.specs.declared.term.Term.{Term}
use Rattle.term_tree.specs.declared.term.Term.TheOpen.{Term-F, Atom-F}
use Rattle.term_tree.specs.declared.term.Term.TheFolds.{fold-Term, fold-Atom}
use Rattle.term_tree.specs.declared.term.Atom.{Atom}
use Rattle.term_tree.specs.Tree.{Tree, AtomTree, Sum, Node, trees_of, atoms_of}

-- one level, where each term inside is its tree already
abbrev pub term_step : Term-F Tree AtomTree → Tree
term_step (Term-F.Sum width constant xs) = Sum width constant (atoms_of xs)
term_step (Term-F.Node head width number name ts) = Node head width number name (trees_of ts)

abbrev pub atom_step : Atom-F Tree AtomTree → AtomTree
atom_step a = (a.coefficient, a.term)

abbrev pub tree_of : Term → Tree
tree_of = fold-Term Tree AtomTree term_step atom_step

abbrev pub atom_of : Atom → AtomTree
atom_of = fold-Atom Tree AtomTree term_step atom_step
