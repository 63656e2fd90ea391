-- Comparisons of two terms of w bits, as terms of 8 bits.
use Rattle.std.specs.Prelude.{◌-◌, ◌^◌, []}
use Rattle.bits64.specs.declared.Width.{Width}
use Rattle.bits64.specs.declared.Width.TheVariants.{W8}
use Rattle.bits64.specs.Words.{bits_of}
use Rattle.term_tree.specs.declared.head.Head.TheVariants as heads
use Rattle.bits64.specs.declared.operator.Relation.{Relation}
use Rattle.bits64.specs.declared.operator.Relation.TheVariants.{Eq, Ne, Lt, Gt, Le, Ge, Ltu, Gtu, Leu, Geu}
use Rattle.term_tree.specs.Tree.{Tree, Sum, Node, no_atoms, atom, no_trees, tree}
use Rattle.term_mean.specs.Cuts.{one_part}
use Rattle.term_mean.specs.Shifts.{two_parts}

-- a - b, as a sum that is not in normal form
abbrev pub difference : Width → Tree → Tree → Tree
difference w a b = Sum w 0 (atom 1 a (atom (2 ^ bits_of w - 1) b no_atoms))

-- the exclusive or of 1 and a truth
abbrev pub opposite_of : Tree → Tree
opposite_of t = Node heads.Xor W8 0 [] (tree (Sum W8 1 no_atoms) (tree t no_trees))

-- each is a comparison by less or a test for 0, of the two in one order, or its opposite
abbrev pub related : Relation → Width → Tree → Tree → Tree
related Eq w a b = one_part heads.Eq w (difference w a b)
related Ne w a b = opposite_of (one_part heads.Eq w (difference w a b))
related Lt w a b = two_parts heads.Lt w a b
related Gt w a b = two_parts heads.Lt w b a
related Le w a b = opposite_of (two_parts heads.Lt w b a)
related Ge w a b = opposite_of (two_parts heads.Lt w a b)
related Ltu w a b = two_parts heads.Ltu w a b
related Gtu w a b = two_parts heads.Ltu w b a
related Leu w a b = opposite_of (two_parts heads.Ltu w b a)
related Geu w a b = opposite_of (two_parts heads.Ltu w a b)
