use Rattle.std.proofs.Common.{◌≡◌, map, drop, ◌++◌}
use Rattle.term_tree.specs.Tree.{trees_of, atoms_of}
use Rattle.term_tree.specs.View.{tree_of, atom_of}
use Rattle.term_mean.specs.Cuts.{cut_atoms, cut_all}
use Rattle.term_cuts.proofs.cuts.+cut.Given as goal

abbrev pub invariant-cut_atoms-loop-atom : goal.invariant-cut_atoms-loop-atom
invariant-cut_atoms-loop-atom g l =
    map atom_of l.cuts.items ++ cut_atoms (g.M.Makes.made l.makes) l.m (atoms_of (map atom_of (drop l.atom-index l.atoms))) ≡ cut_atoms (g.M.Makes.made l.makes) l.m (atoms_of (map atom_of l.atoms))

abbrev pub invariant-cut_all-loop-part : goal.invariant-cut_all-loop-part
invariant-cut_all-loop-part g l =
    map tree_of l.cuts.items ++ cut_all (g.M.Makes.made l.makes) l.m (trees_of (map tree_of (drop l.part-index l.parts))) ≡ cut_all (g.M.Makes.made l.makes) l.m (trees_of (map tree_of l.parts))
