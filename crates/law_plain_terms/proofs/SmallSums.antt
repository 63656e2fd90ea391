-- Sums and products of the plain rows are within the limit on terms.
use Rattle.std.proofs.Common.{ℕ, zero, suc, refl, [], ◌∷◌}
use Rattle.std.specs.declared.cmp.Ordering.{Ordering}
use Rattle.std.specs.declared.cmp.Ordering.TheVariants.{Less, Equal, Greater}
use Rattle.bits64.specs.declared.Width.{Width}
use Rattle.bits64.specs.declared.Width.TheVariants.{W32, W64}
use Rattle.bits64.specs.Words.{low, sum_of, product_of}
use Rattle.term_tree.specs.declared.head.Joint.TheVariants.{Mul}
use Rattle.term_tree.specs.Tree.{Tree}
use Rattle.term_tree.specs.Order.{tree_cmp}
use Rattle.term_mean.specs.Sums.{constant, sum, summed, placed, with_atom}
use Rattle.term_mean.specs.Joints.{plain, put}
use Rattle.term_mean.specs.Masks.{cut_32, made_32, made_64}
use Rattle.sym_state.specs.Makers.{minus_one}
use Rattle.law_plain_terms.specs.Rows.{part, whole, IsSmall, AreSmall}

-- ---- sums of two registers' parts, by their order

abbrev of_two : Width → Ordering → ℕ → Tree → Tree → Tree
of_two w o k a b = sum w 0 (placed o w k b (1, a) [] ((k, b) ∷ []))

small_add : (o : Ordering) (a b : ℕ) → AreSmall (of_two W32 o 1 (part W32 a) (part W32 b))
unfolding cut_32
small_add Less a b = (refl, refl)
small_add Equal a b = (refl, refl)
small_add Greater a b = (refl, refl)

small_sub : (o : Ordering) (a b : ℕ) → AreSmall (of_two W32 o (minus_one W32) (part W32 a) (part W32 b))
unfolding cut_32
small_sub Less a b = (refl, refl)
small_sub Equal a b = (refl, refl)
small_sub Greater a b = (refl, refl)

small_add_whole : (o : Ordering) (a b : ℕ) → IsSmall (of_two W64 o 1 (whole a) (whole b))
small_add_whole Less a b = refl
small_add_whole Equal a b = refl
small_add_whole Greater a b = refl

small_sub_whole : (o : Ordering) (a b : ℕ) → IsSmall (of_two W64 o (minus_one W64) (whole a) (whole b))
small_sub_whole Less a b = refl
small_sub_whole Equal a b = refl
small_sub_whole Greater a b = refl

pub add_32 : (a b : ℕ) → AreSmall (summed W32 0 ((1, part W32 a) ∷ (1, part W32 b) ∷ []))
unfolding cut_32
add_32 a b = small_add (tree_cmp (part W32 b) (part W32 a)) a b

pub sub_32 : (a b : ℕ) → AreSmall (summed W32 0 ((1, part W32 a) ∷ (minus_one W32, part W32 b) ∷ []))
unfolding cut_32
sub_32 a b = small_sub (tree_cmp (part W32 b) (part W32 a)) a b

pub add_64 : (a b : ℕ) → IsSmall (summed W64 0 ((1, whole a) ∷ (1, whole b) ∷ []))
add_64 a b = small_add_whole (tree_cmp (whole b) (whole a)) a b

pub sub_64 : (a b : ℕ) → IsSmall (summed W64 0 ((1, whole a) ∷ (minus_one W64, whole b) ∷ []))
sub_64 a b = small_sub_whole (tree_cmp (whole b) (whole a)) a b

-- ---- a constant and a multiple of a register

pub small_part : (c k a : ℕ) → AreSmall (sum W32 c (with_atom k (part W32 a) []))
unfolding cut_32
small_part zero zero a = (refl, refl)
small_part (suc c) zero a = (refl, refl)
small_part zero (suc zero) a = (refl, refl)
small_part zero (suc (suc k)) a = (refl, refl)
small_part (suc c) (suc k) a = (refl, refl)

pub small_whole : (c k a : ℕ) → IsSmall (sum W64 c (with_atom k (whole a) []))
small_whole zero zero a = refl
small_whole (suc c) zero a = refl
small_whole zero (suc zero) a = refl
small_whole zero (suc (suc k)) a = refl
small_whole (suc c) (suc k) a = refl

pub addi_32 : (a c : ℕ) → AreSmall (summed W32 0 ((1, part W32 a) ∷ (1, constant W32 c) ∷ []))
unfolding cut_32
addi_32 a c = small_part (sum_of W32 0 (product_of W32 1 (low W32 c))) 1 a

pub addi_64 : (a c : ℕ) → IsSmall (summed W64 0 ((1, whole a) ∷ (1, constant W64 c) ∷ []))
addi_64 a c = small_whole (sum_of W64 0 (product_of W64 1 (low W64 c))) 1 a

-- ---- products

small_mul : (o : Ordering) (a b : ℕ) → AreSmall (plain Mul W32 (put Mul o (part W32 b) (part W32 a) [] (part W32 b ∷ [])))
unfolding cut_32
small_mul Less a b = (refl, refl)
small_mul Equal a b = (refl, refl)
small_mul Greater a b = (refl, refl)

small_mul_whole : (o : Ordering) (a b : ℕ) → IsSmall (plain Mul W64 (put Mul o (whole b) (whole a) [] (whole b ∷ [])))
small_mul_whole Less a b = refl
small_mul_whole Equal a b = refl
small_mul_whole Greater a b = refl

pub mul_32 : (a b : ℕ) → AreSmall (made_32 Mul (part W32 a ∷ part W32 b ∷ []))
unfolding cut_32 made_32
mul_32 a b = small_mul (tree_cmp (part W32 b) (part W32 a)) a b

pub mul_64 : (a b : ℕ) → IsSmall (made_64 Mul (whole a ∷ whole b ∷ []))
unfolding made_64
mul_64 a b = small_mul_whole (tree_cmp (whole b) (whole a)) a b
