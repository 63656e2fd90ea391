use Rattle.std.proofs.Common.{◌≡◌, ◌+◌, ◌≤◌, map, drop}
use Rattle.term_tree.specs.Tree.{atoms_size, trees_size, trees_of, atoms_of}
use Rattle.rtx_tree.specs.Limit.{most_nodes}
use Rattle.term_tree.specs.Small.{atoms_levels, trees_levels}
use Rattle.term_tree.specs.View.{tree_of, atom_of}
use Rattle.term_tree.specs.machine.Counted.{counted}
use Rattle.term_tree.proofs.nodes.+count.Given as goal

abbrev pub invariant-count_atoms-loop-atom : goal.invariant-count_atoms-loop-atom
invariant-count_atoms-loop-atom l =
    (l.so_far ≤ most_nodes + 1) × (counted l.so_far (atoms_size (atoms_of (map atom_of (drop l.atom-index l.atoms)))) (atoms_levels (atoms_of (map atom_of (drop l.atom-index l.atoms)))) l.levels ≡ counted l.initial.so_far (atoms_size (atoms_of (map atom_of l.atoms))) (atoms_levels (atoms_of (map atom_of l.atoms))) l.levels)

abbrev pub invariant-count_parts-loop-part : goal.invariant-count_parts-loop-part
invariant-count_parts-loop-part l =
    (l.so_far ≤ most_nodes + 1) × (counted l.so_far (trees_size (trees_of (map tree_of (drop l.part-index l.parts)))) (trees_levels (trees_of (map tree_of (drop l.part-index l.parts)))) l.levels ≡ counted l.initial.so_far (trees_size (trees_of (map tree_of l.parts))) (trees_levels (trees_of (map tree_of l.parts))) l.levels)
