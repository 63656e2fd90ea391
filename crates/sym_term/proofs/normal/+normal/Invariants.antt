use Rattle.std.proofs.Common.{◌≡◌, map, drop, ◌++◌}
use Rattle.term_tree.specs.Tree.{trees_of, atoms_of}
use Rattle.term_tree.specs.View.{tree_of, atom_of}
use Rattle.term_cuts.specs.term_mean.Normal.{normal_atoms, normal_all}
use Rattle.sym_term.specs.Views.{store_of}
use Rattle.sym_term.proofs.normal.+normal.Given as goal

abbrev pub invariant-normal_sum-loop-atom : goal.invariant-normal_sum-loop-atom
invariant-normal_sum-loop-atom l =
    map atom_of l.normals.items ++ normal_atoms (map store_of l.stores) (atoms_of (map atom_of (drop l.atom-index l.atoms))) ≡ normal_atoms (map store_of l.stores) (atoms_of (map atom_of l.atoms))

abbrev pub invariant-normal_parts-loop-part : goal.invariant-normal_parts-loop-part
invariant-normal_parts-loop-part l =
    map tree_of l.normals.items ++ normal_all (map store_of l.stores) (trees_of (map tree_of (drop l.part-index l.parts))) ≡ normal_all (map store_of l.stores) (trees_of (map tree_of l.parts))
