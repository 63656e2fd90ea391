-- Heads and relations by what is made of them, for the contracts of private functions alone.
use Rattle.std.specs.Prelude.{Bool, true, false}
use Rattle.bits64.specs.declared.Width.{Width}
use Rattle.term_tree.specs.declared.head.Head.{Head}
use Rattle.term_tree.specs.declared.head.Head.TheVariants as heads
use Rattle.bits64.specs.declared.operator.Relation.{Relation}
use Rattle.bits64.specs.declared.operator.Relation.TheVariants as relations
use Rattle.term_tree.specs.declared.head.Extension.TheVariants.{Zero, Sign}
use Rattle.term_tree.specs.Tree.{Tree}
use Rattle.term_cuts.specs.term_mean.Extensions.{extended}
use Rattle.term_cuts.specs.term_mean.Masks.{made_at, cut_to}
use Rattle.term_cuts.specs.term_mean.Zero.{equals_zero}
use Rattle.term_cuts.specs.term_mean.Less.{less_than}
use Rattle.term_cuts.specs.term_mean.Compared.{same_in}
use Rattle.sym_term.specs.declared.normal.OneRule.{OneRule}
use Rattle.sym_term.specs.declared.normal.OneRule.TheVariants as rule
use Rattle.sym_term.specs.declared.normal.OneKind.{OneKind}
use Rattle.sym_term.specs.declared.normal.OneKind.TheVariants as one
use Rattle.sym_term.specs.declared.normal.TwoKind.{TwoKind}
use Rattle.sym_term.specs.declared.normal.TwoKind.TheVariants as two
use Rattle.sym_term.specs.declared.maker.Test.{Test}
use Rattle.sym_term.specs.declared.maker.Test.TheVariants as test

-- ---- heads over one part

abbrev pub one_kind : Head → OneKind
one_kind (heads.Opaque o) = one.Opaque o
one_kind heads.Trunc = one.Ruled rule.Low
one_kind heads.Zext = one.Ruled (rule.Wide Zero)
one_kind heads.Sext = one.Ruled (rule.Wide Sign)
one_kind heads.Eq = one.Ruled rule.Zero
one_kind heads.Load = one.Load
one_kind _ = one.Other

abbrev pub one_ruled : OneRule → Width → Tree → Tree
one_ruled rule.Low w a = cut_to w a
one_ruled (rule.Wide e) w a = extended (made_at w) e w a
one_ruled rule.Zero w a = equals_zero w a

-- ---- heads over two parts

abbrev pub two_kind : Head → TwoKind
two_kind (heads.Opaque o) = two.Opaque o
two_kind heads.Shl = two.Shift
two_kind heads.Shr = two.Shift
two_kind heads.Sar = two.Shift
two_kind heads.Lt = two.Less Sign
two_kind heads.Ltu = two.Less Zero
two_kind _ = two.Other

-- ---- relations: a test, or its opposite

abbrev pub test_in : Relation → Test
test_in relations.Eq = test.Same
test_in relations.Ne = test.Same
test_in relations.Lt = test.Less Sign
test_in relations.Gt = test.Greater Sign
test_in relations.Le = test.Greater Sign
test_in relations.Ge = test.Less Sign
test_in relations.Ltu = test.Less Zero
test_in relations.Gtu = test.Greater Zero
test_in relations.Leu = test.Greater Zero
test_in relations.Geu = test.Less Zero

abbrev pub opposes : Relation → Bool
opposes relations.Ne = true
opposes relations.Le = true
opposes relations.Ge = true
opposes relations.Leu = true
opposes relations.Geu = true
opposes _ = false

abbrev pub tested : Test → Width → Tree → Tree → Tree
tested test.Same w a b = same_in w a b
tested (test.Less e) w a b = less_than e w a b
tested (test.Greater e) w a b = less_than e w b a
