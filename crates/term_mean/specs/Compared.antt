-- What is made of terms in normal form besides operators and sums: comparisons, and the low bits of
-- a term of any width.
use Rattle.std.specs.Prelude.{Bool, true, false, if◌then◌else◌, ◌-◌, ◌^◌, [], ◌∷◌}
use Rattle.bits64.specs.declared.Width.{Width}
use Rattle.bits64.specs.Words.{bits_of}
use Rattle.bits64.specs.declared.operator.Relation.{Relation}
use Rattle.bits64.specs.declared.operator.Relation.TheVariants.{Eq, Ne, Lt, Gt, Le, Ge, Ltu, Gtu, Leu, Geu}
use Rattle.term_tree.specs.declared.head.Extension.TheVariants.{Zero, Sign}
use Rattle.term_tree.specs.Tree.{Tree, width_of}
use Rattle.term_tree.specs.Form.{same_width}
use Rattle.term_mean.specs.Sums.{summed}
use Rattle.term_mean.specs.Masks.{cut_to}
use Rattle.term_mean.specs.Truths.{opposite}
use Rattle.term_mean.specs.Zero.{equals_zero}
use Rattle.term_mean.specs.Less.{less_than}

-- whether a - b is 0
abbrev pub same_in : Width → Tree → Tree → Tree
same_in w a b = equals_zero w (summed w 0 ((1, a) ∷ (2 ^ bits_of w - 1, b) ∷ []))

-- each is a comparison by less or a test for 0, of the two in one order, or its opposite
abbrev pub compared : Relation → Width → Tree → Tree → Tree
compared Eq w a b = same_in w a b
compared Ne w a b = opposite (same_in w a b)
compared Lt w a b = less_than Sign w a b
compared Gt w a b = less_than Sign w b a
compared Le w a b = opposite (less_than Sign w b a)
compared Ge w a b = opposite (less_than Sign w a b)
compared Ltu w a b = less_than Zero w a b
compared Gtu w a b = less_than Zero w b a
compared Leu w a b = opposite (less_than Zero w b a)
compared Geu w a b = opposite (less_than Zero w a b)

-- the low bits of a term of any width: the term itself where it is as wide
abbrev pub low_bits : Width → Tree → Tree
low_bits w t = if same_width (width_of t) w then t else cut_to w t
