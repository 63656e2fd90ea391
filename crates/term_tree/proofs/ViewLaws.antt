-- What the tree of a term is, one level at a time.
use Rattle.std.proofs.Common.{◌≡◌, ℕ, refl, List, [], ◌∷◌, map, ap, ◌∙◌, sym}
use Rattle.term_tree.specs.declared.head.Head.{Head}
use Rattle.term_tree.specs.declared.term.Term.{Term}
use Rattle.term_tree.specs.declared.term.Term.TheViews as terms
use Rattle.term_tree.specs.declared.term.Term.TheViews.{roll-Atom}
use Rattle.term_tree.specs.declared.term.Term.TheOpen.{Term-F, Atom-F}
use Rattle.term_tree.specs.declared.term.Term.TheFolds.{fold_out-Atom, fold-roll-Term, fold-roll-Atom}
use Rattle.term_tree.specs.declared.term.Term.TheVariants.{rolls-Sum, rolls-Node}
use Rattle.term_tree.specs.declared.term.Atom.{Atom}
use Rattle.bits64.specs.declared.Width.{Width}
use Rattle.term_tree.specs.Tree.{Tree, AtomTree, atoms_of, list_of_atoms, list_of, Sum, Node, trees_of}
use Rattle.term_tree.specs.View.{tree_of, atom_of, term_step, atom_step}

pub list_of-atoms_of : (xs : List AtomTree) → list_of_atoms (atoms_of xs) ≡ xs
list_of-atoms_of [] = refl
list_of-atoms_of (x ∷ xs) = ap (λ ys. x ∷ ys) (list_of-atoms_of xs)

pub list_of-trees_of : (ts : List Tree) → list_of (trees_of ts) ≡ ts
list_of-trees_of [] = refl
list_of-trees_of (t ∷ ts) = ap (λ us. t ∷ us) (list_of-trees_of ts)

pub atom_of-is : (x : Atom) → atom_of x ≡ (x.coefficient, tree_of x.term)
atom_of-is x = fold_out-Atom Tree AtomTree term_step atom_step x

pub ruleset view_laws = (atom_of-is)

pub atom_of-roll : (x : Atom-F Term Atom) → atom_of (roll-Atom x) ≡ (x.coefficient, tree_of x.term)
atom_of-roll x = fold-roll-Atom Tree AtomTree term_step atom_step x

pub tree_of-Sum : (w : Width) (c : ℕ) (xs : List Atom) → tree_of (terms.Sum w c xs) ≡ Sum w c (atoms_of (map atom_of xs))
tree_of-Sum w c xs = ap tree_of (sym (rolls-Sum w c xs)) ∙ fold-roll-Term Tree AtomTree term_step atom_step (Term-F.Sum w c xs)

pub tree_of-Node : (h : Head) (w : Width) (n : ℕ) (s : List ℕ) (ps : List Term) → tree_of (terms.Node h w n s ps) ≡ Node h w n s (trees_of (map tree_of ps))
tree_of-Node h w n s ps = ap tree_of (sym (rolls-Node h w n s ps)) ∙ fold-roll-Term Tree AtomTree term_step atom_step (Term-F.Node h w n s ps)
