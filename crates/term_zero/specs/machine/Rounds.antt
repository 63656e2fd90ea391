-- What one round of the test for 0 comes to.
use Rattle.std.specs.Prelude.{Option, Some, None, if◌then◌else◌}
use Rattle.bits64.specs.declared.Width.{Width}
use Rattle.term_tree.specs.declared.head.Head.TheVariants as heads
use Rattle.term_tree.specs.Tree.{Tree, Node, no_trees, tree}
use Rattle.term_tree.specs.Form.{same_width}
use Rattle.term_tree.specs.View.{tree_of}
use Rattle.term_cuts.specs.term_mean.Sums.{minus}
use Rattle.term_cuts.specs.term_mean.Zero.{zero_difference}
use Rattle.term_zero.specs.declared.zero.Round.{Round}
use Rattle.term_zero.specs.declared.zero.Round.TheVariants.{Done, Next}

-- the answer, or what `again` makes of the next term
abbrev pub round_tree : (Width → Tree → Tree) → Round → Tree
round_tree again (Done answer) = tree_of answer
round_tree again (Next width term) = again width (tree_of term)

-- the two parts of an exclusive or of the width
abbrev pub xor_parts : Width → Tree → Option (Tree × Tree)
xor_parts w (Node heads.Xor u n s (tree a (tree b no_trees))) =
    if same_width u w then Some (a, b) else None
xor_parts w t = None

abbrev pub zero_parted : Option (Tree × Tree) → (Width → Tree → Tree) → Width → Tree → Tree
zero_parted (Some p) again w t = again w (minus w p.0 p.1)
zero_parted None again w t = zero_difference again w t
