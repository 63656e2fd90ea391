-- Comparisons of registers of 64 bits: less, and not less.
use Rattle.std.proofs.Common.{◌≡◌, ℕ, suc, refl}
use Rattle.std.specs.declared.cmp.Ordering.{Ordering}
use Rattle.std.specs.declared.cmp.Ordering.TheVariants.{Less, Equal, Greater}
use Rattle.std.specs.Ordering.{nat_cmp, ordering_then}
use Rattle.bits64.specs.declared.Width.TheVariants.{W32, W64}
use Rattle.bits64.specs.declared.operator.Operator.TheVariants as operators
use Rattle.bits64.specs.declared.operator.Relation.TheVariants as relation
use Rattle.rtx_tree.specs.declared.code.Code.TheVariants as code
use Rattle.term_tree.specs.declared.head.Extension.{Extension}
use Rattle.term_tree.specs.declared.head.Extension.TheVariants.{Zero, Sign}
use Rattle.term_tree.specs.Tree.{Tree}
use Rattle.term_mean.specs.Masks.{cut_32, made_8, made_32, made_64}
use Rattle.term_mean.specs.Less.{less_unless, less_test, less_than}
use Rattle.term_mean.specs.Truths.{opposite}
use Rattle.term_mean.specs.Compared.{low_bits}
use Rattle.law_plain_terms.proofs.Back.{in_64, in_32, whole_truth}
use Rattle.law_plain_terms.specs.Rows.{whole, reversed, Compares, Reverses}

-- ---- whether a register is less than another, by their order

abbrev by_order : Extension → Ordering → ℕ → ℕ → Tree
by_order e o a b = less_unless (ordering_then o Equal) (less_test 3) e W64 (whole a) (whole b)

-- a truth of 64 bits, cut to 32, is the truth of 32
abbrev Cuts : Tree → Type 0
Cuts t = low_bits W32 (in_64 t) ≡ in_32 t

cut_by : (e : Extension) (o : Ordering) (a b : ℕ) → Cuts (by_order e o a b)
unfolding cut_32
cut_by Sign Less a b = refl
cut_by Sign Equal a b = refl
cut_by Sign Greater a b = refl
cut_by Zero Less a b = refl
cut_by Zero Equal a b = refl
cut_by Zero Greater a b = refl

pub slt_32 : (a b : ℕ) → Compares (operators.Test relation.Lt) code.Lt W32 (whole a) (whole b)
unfolding less_test
slt_32 a b = cut_by Sign (nat_cmp (suc a) (suc b)) a b

pub slt_64 : (a b : ℕ) → Compares (operators.Test relation.Lt) code.Lt W64 (whole a) (whole b)
slt_64 a b = whole_truth (less_than Sign W64 (whole a) (whole b))

pub sltu_32 : (a b : ℕ) → Compares (operators.Test relation.Ltu) code.Ltu W32 (whole a) (whole b)
unfolding less_test
sltu_32 a b = cut_by Zero (nat_cmp (suc a) (suc b)) a b

pub sltu_64 : (a b : ℕ) → Compares (operators.Test relation.Ltu) code.Ltu W64 (whole a) (whole b)
sltu_64 a b = whole_truth (less_than Zero W64 (whole a) (whole b))

-- ---- and not less: the exclusive or with 1 is the opposite

reversed_64 : (e : Extension) (o : Ordering) (a b : ℕ) → low_bits W64 (reversed (in_64 (by_order e o a b))) ≡ in_64 (opposite (by_order e o a b))
unfolding made_8 made_64
reversed_64 Sign Less a b = refl
reversed_64 Sign Equal a b = refl
reversed_64 Sign Greater a b = refl
reversed_64 Zero Less a b = refl
reversed_64 Zero Equal a b = refl
reversed_64 Zero Greater a b = refl

reversed_32 : (e : Extension) (o : Ordering) (a b : ℕ) → low_bits W32 (reversed (in_64 (by_order e o a b))) ≡ in_32 (opposite (by_order e o a b))
unfolding cut_32 made_8 made_32 made_64
reversed_32 Sign Less a b = refl
reversed_32 Sign Equal a b = refl
reversed_32 Sign Greater a b = refl
reversed_32 Zero Less a b = refl
reversed_32 Zero Equal a b = refl
reversed_32 Zero Greater a b = refl

pub sge_32 : (a b : ℕ) → Reverses (operators.Test relation.Lt) code.Ge W32 (whole a) (whole b)
unfolding less_test
sge_32 a b = reversed_32 Sign (nat_cmp (suc a) (suc b)) a b

pub sge_64 : (a b : ℕ) → Reverses (operators.Test relation.Lt) code.Ge W64 (whole a) (whole b)
unfolding less_test
sge_64 a b = reversed_64 Sign (nat_cmp (suc a) (suc b)) a b

pub sgeu_32 : (a b : ℕ) → Reverses (operators.Test relation.Ltu) code.Geu W32 (whole a) (whole b)
unfolding less_test
sgeu_32 a b = reversed_32 Zero (nat_cmp (suc a) (suc b)) a b

pub sgeu_64 : (a b : ℕ) → Reverses (operators.Test relation.Ltu) code.Geu W64 (whole a) (whole b)
unfolding less_test
sgeu_64 a b = reversed_64 Zero (nat_cmp (suc a) (suc b)) a b
