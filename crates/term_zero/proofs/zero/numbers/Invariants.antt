use Rattle.std.proofs.Common.{◌≡◌, map, drop, ◌++◌, [], ◌∷◌}
use Rattle.term_tree.specs.Tree.{atoms_of}
use Rattle.term_tree.specs.View.{atom_of}
use Rattle.term_cuts.specs.term_mean.Zero.{coefficients}
use Rattle.term_zero.proofs.zero.numbers.Given as goal

abbrev pub invariant-loop-atom : goal.invariant-loop-atom
invariant-loop-atom l =
    l.numbers.items ++ coefficients (atoms_of (map atom_of (drop l.atom-index l.atoms))) (l.constant ∷ []) ≡ coefficients (atoms_of (map atom_of l.atoms)) (l.constant ∷ [])
