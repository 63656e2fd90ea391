use Rattle.std.proofs.Common.{◌≡◌, ◌≤◌, map, length, ◌+◌, ◌*◌}
use Rattle.term_tree.specs.Tree.{tree_size, atoms_size, trees_size, trees_of, atoms_of}
use Rattle.term_tree.specs.Order.{atoms_cmp, trees_cmp}
use Rattle.term_tree.specs.View.{tree_of, atom_of}
use Rattle.term_tree.proofs.order.+order.Given as goal

abbrev pub decreases-compare : goal.decreases-compare
decreases-compare l = 3 * tree_size (tree_of l.a.now)

abbrev pub decreases-compare_sum : goal.decreases-compare_sum
decreases-compare_sum l = 3 * atoms_size (atoms_of (map atom_of l.atoms.now)) + 2

abbrev pub decreases-compare_node : goal.decreases-compare_node
decreases-compare_node l = 3 * trees_size (trees_of (map tree_of l.parts.now)) + 2

abbrev pub decreases-compare_atoms : goal.decreases-compare_atoms
decreases-compare_atoms l = 3 * atoms_size (atoms_of (map atom_of l.a.now)) + 1

abbrev pub decreases-compare_parts : goal.decreases-compare_parts
decreases-compare_parts l = 3 * trees_size (trees_of (map tree_of l.a.now)) + 1

abbrev pub invariant-compare_atoms-loop-left : goal.invariant-compare_atoms-loop-left
invariant-compare_atoms-loop-left l =
    (atoms_size (atoms_of (map atom_of l.left)) ≤ atoms_size (atoms_of (map atom_of l.a))) × (atoms_cmp (atoms_of (map atom_of l.left)) (atoms_of (map atom_of l.right)) ≡ atoms_cmp (atoms_of (map atom_of l.a)) (atoms_of (map atom_of l.b)))

abbrev pub decreases-compare_atoms-loop-left : goal.decreases-compare_atoms-loop-left
decreases-compare_atoms-loop-left l = length l.left

abbrev pub invariant-compare_parts-loop-left : goal.invariant-compare_parts-loop-left
invariant-compare_parts-loop-left l =
    (trees_size (trees_of (map tree_of l.left)) ≤ trees_size (trees_of (map tree_of l.a))) × (trees_cmp (trees_of (map tree_of l.left)) (trees_of (map tree_of l.right)) ≡ trees_cmp (trees_of (map tree_of l.a)) (trees_of (map tree_of l.b)))

abbrev pub decreases-compare_parts-loop-left : goal.decreases-compare_parts-loop-left
decreases-compare_parts-loop-left l = length l.left
