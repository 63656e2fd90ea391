-- Which terms are small enough for a comparison.
use Rattle.std.specs.Prelude.{ℕ, ◌+◌, max, nat_le, Bool, ◌&&◌}
use Rattle.term_tree.specs.Tree.{Tree, Atoms, Trees, Sum, Node, no_atoms, atom, no_trees, tree, tree_size}
use Rattle.rtx_tree.specs.Limit.{most_nodes, most_levels}

-- how many levels a term has: one more than the deepest of its parts
abbrev mutual
  pub tree_levels : Tree → ℕ
  tree_levels (Sum w c xs) = 1 + atoms_levels xs
  tree_levels (Node h w n s ps) = 1 + trees_levels ps

  pub atoms_levels : Atoms → ℕ
  atoms_levels no_atoms = 0
  atoms_levels (atom k t xs) = max (tree_levels t) (atoms_levels xs)

  pub trees_levels : Trees → ℕ
  trees_levels no_trees = 0
  trees_levels (tree t ts) = max (tree_levels t) (trees_levels ts)

-- a term has no more nodes and levels than it may
abbrev pub is_small : Tree → Bool
is_small t = nat_le (tree_size t) most_nodes && nat_le (tree_levels t) most_levels
