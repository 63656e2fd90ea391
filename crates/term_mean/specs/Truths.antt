-- Truths: comparisons, their extensions by zeros, and their opposites. Each is 0 or 1.
use Rattle.std.specs.Prelude.{◌==◌, Bool, true, false, ◌&&◌, [], ◌∷◌}
use Rattle.bits64.specs.declared.Width.TheVariants.{W8}
use Rattle.term_tree.specs.declared.head.Head.TheVariants as heads
use Rattle.term_tree.specs.declared.head.Joint.TheVariants.{Xor}
use Rattle.term_tree.specs.Tree.{Tree, Sum, Node, no_atoms, no_trees, tree}
use Rattle.term_mean.specs.Sums.{constant}
use Rattle.term_mean.specs.Masks.{made_8}

abbrev pub is_one : Tree → Bool
is_one (Sum w c no_atoms) = c == 1
is_one _ = false

abbrev pub is_truth : Tree → Bool
is_truth (Node heads.Lt w n s ps) = true
is_truth (Node heads.Ltu w n s ps) = true
is_truth (Node heads.Eq w n s ps) = true
is_truth (Node heads.Zext w n s (tree t no_trees)) = is_truth t
is_truth (Node heads.Xor w n s (tree c (tree t no_trees))) = is_one c && is_truth t
is_truth _ = false

-- 1 where a truth of 8 bits is 0, and 0 where it is 1
abbrev pub opposite : Tree → Tree
opposite t = made_8 Xor (constant W8 1 ∷ t ∷ [])
