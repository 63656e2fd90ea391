-- Sums, differences and what is taken from 0.
use Rattle.std.proofs.Common.{ℕ, refl, ◌∙◌, ap, arith, [], ◌∷◌}
use Rattle.std.specs.declared.cmp.Ordering.{Ordering}
use Rattle.std.specs.declared.cmp.Ordering.TheVariants.{Less, Equal, Greater}
use Rattle.bits64.specs.declared.Width.{Width}
use Rattle.bits64.specs.declared.Width.TheVariants.{W32, W64}
use Rattle.bits64.specs.Words.{low, sum_of, product_of}
use Rattle.bits64.specs.declared.operator.Operator.TheVariants as operators
use Rattle.rtx_tree.specs.declared.code.Code.TheVariants as code
use Rattle.term_tree.specs.Tree.{Tree}
use Rattle.term_tree.specs.Order.{tree_cmp}
use Rattle.term_mean.specs.Sums.{constant, sum, summed, placed}
use Rattle.term_mean.specs.Masks.{cut_32}
use Rattle.term_mean.specs.Compared.{low_bits}
use Rattle.term_mean.proofs.Widths.{width-summed}
use Rattle.sym_state.specs.Makers.{minus_one}
use Rattle.law_plain_terms.specs.Rows.{part, whole, OfRegisters, FromConstant, WithConstant, FromZero}
use Rattle.law_plain_terms.proofs.Back.{Back, extended_64, low_same, low_constant_32, back_atom}

-- ---- two registers' parts, by their order

-- a + k * b, where the order of b and a is o
abbrev of_two : Width → Ordering → ℕ → Tree → Tree → Tree
of_two w o k a b = sum w 0 (placed o w k b (1, a) [] ((k, b) ∷ []))

back_add : (o : Ordering) (a b : ℕ) → Back (of_two W32 o 1 (part W32 a) (part W32 b))
unfolding cut_32
back_add Less a b = refl
back_add Equal a b = refl
back_add Greater a b = refl

back_sub : (o : Ordering) (a b : ℕ) → Back (of_two W32 o (minus_one W32) (part W32 a) (part W32 b))
unfolding cut_32
back_sub Less a b = refl
back_sub Equal a b = refl
back_sub Greater a b = refl

-- ---- add and sub

pub add_64 : OfRegisters operators.Add W64 code.Plus W64
add_64 a b = low_same W64 (summed W64 0 ((1, whole a) ∷ (1, whole b) ∷ [])) (width-summed W64 0 ((1, whole a) ∷ (1, whole b) ∷ []))

pub add_32 : OfRegisters operators.Add W32 code.Plus W32
unfolding cut_32
add_32 a b = back_add (tree_cmp (part W32 b) (part W32 a)) a b

pub sub_64 : OfRegisters operators.Sub W64 code.Minus W64
sub_64 a b = low_same W64 (summed W64 0 ((1, whole a) ∷ (minus_one W64, whole b) ∷ [])) (width-summed W64 0 ((1, whole a) ∷ (minus_one W64, whole b) ∷ []))

pub sub_32 : OfRegisters operators.Sub W32 code.Minus W32
unfolding cut_32
sub_32 a b = back_sub (tree_cmp (part W32 b) (part W32 a)) a b

-- ---- with a constant

pub addi_64 : WithConstant operators.Add W64 code.Plus W64
addi_64 a c = low_same W64 (summed W64 0 ((1, whole a) ∷ (1, constant W64 c) ∷ [])) (width-summed W64 0 ((1, whole a) ∷ (1, constant W64 c) ∷ []))

back_addi : (a c : ℕ) → Back (summed W32 0 ((1, part W32 a) ∷ (1, constant W32 c) ∷ []))
unfolding cut_32
back_addi a c = back_atom (sum_of W32 0 (product_of W32 1 (low W32 c))) 1 a (omega arith)

pub addi_32 : WithConstant operators.Add W32 code.Plus W32
unfolding cut_32
addi_32 a c = ap (λ t. low_bits W32 (extended_64 (summed W32 0 ((1, part W32 a) ∷ (1, t) ∷ [])))) (low_constant_32 c) ∙ back_addi a c

-- ---- from 0

pub sub_zero_64 : FromZero operators.Sub W64 code.Minus W64
sub_zero_64 b = low_same W64 (summed W64 0 ((1, constant W64 0) ∷ (minus_one W64, whole b) ∷ [])) (width-summed W64 0 ((1, constant W64 0) ∷ (minus_one W64, whole b) ∷ []))

pub sub_zero_32 : FromZero operators.Sub W32 code.Minus W32
unfolding cut_32
sub_zero_32 b = refl

-- ---- with one operand

pub neg_64 : FromConstant operators.Sub 0 W64 code.Neg W64
neg_64 a = refl

pub neg_32 : FromConstant operators.Sub 0 W32 code.Neg W32
unfolding cut_32
neg_32 a = refl
