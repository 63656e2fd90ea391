use Rattle.std.proofs.Common.{◌≡◌, map, drop}
use Rattle.term_tree.specs.Tree.{trees_of, atoms_of}
use Rattle.term_tree.specs.Form.{well_formed_atoms, well_formed_parts}
use Rattle.term_tree.specs.View.{tree_of, atom_of}
use Rattle.term_tree.proofs.form.+form.Given as goal

abbrev pub invariant-are_well_formed_atoms-loop-atom : goal.invariant-are_well_formed_atoms-loop-atom
invariant-are_well_formed_atoms-loop-atom l =
    well_formed_atoms l.w (atoms_of (map atom_of (drop l.atom-index l.atoms))) ≡ well_formed_atoms l.w (atoms_of (map atom_of l.atoms))

abbrev pub invariant-are_well_formed-loop-part : goal.invariant-are_well_formed-loop-part
invariant-are_well_formed-loop-part l =
    well_formed_parts (trees_of (map tree_of (drop l.part-index l.parts))) ≡ well_formed_parts (trees_of (map tree_of l.parts))
