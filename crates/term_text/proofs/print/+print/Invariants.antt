use Rattle.std.proofs.Common.{◌≡◌, ◌++◌, map, drop}
use Rattle.term_tree.specs.Tree.{trees_of, atoms_of}
use Rattle.term_tree.specs.View.{tree_of, atom_of}
use Rattle.term_text.specs.Text.{atoms_text, parts_text}
use Rattle.term_text.proofs.print.+print.Given as goal

abbrev pub invariant-print_atoms-loop-x : goal.invariant-print_atoms-loop-x
invariant-print_atoms-loop-x l =
    l.out.items ++ atoms_text l.w (atoms_of (map atom_of (drop l.x-index l.atoms))) ≡ l.initial.out.items ++ atoms_text l.w (atoms_of (map atom_of l.atoms))

abbrev pub invariant-print_parts-loop-t : goal.invariant-print_parts-loop-t
invariant-print_parts-loop-t l =
    l.out.items ++ parts_text (trees_of (map tree_of (drop l.t-index l.parts))) ≡ l.initial.out.items ++ parts_text (trees_of (map tree_of l.parts))
