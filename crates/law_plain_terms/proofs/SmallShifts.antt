-- Shifts of the plain rows are within the limit on terms.
use Rattle.std.proofs.Common.{ℕ, zero, suc, ◌%◌, ◌^◌, ◌*◌, refl, subst, Option, Some, None}
use Rattle.bits64.specs.declared.Width.{Width}
use Rattle.bits64.specs.declared.Width.TheVariants.{W8, W32, W64}
use Rattle.bits64.specs.Words.{low, sum_of, product_of}
use Rattle.term_tree.specs.declared.head.Head.{Head}
use Rattle.term_tree.specs.declared.head.Head.TheVariants as heads
use Rattle.term_tree.specs.declared.head.Extension.{Extension}
use Rattle.term_tree.specs.declared.head.Extension.TheVariants.{Zero, Sign}
use Rattle.term_tree.specs.Tree.{Tree}
use Rattle.term_mean.specs.Sums.{constant}
use Rattle.term_mean.specs.Shifts.{by_constant, right_exact, left_of, shifted, two_parts}
use Rattle.term_mean.specs.Masks.{cut_32}
use Rattle.law_plain_terms.specs.Rows.{part, whole, IsSmall, AreSmall}
use Rattle.law_plain_terms.proofs.Shifts.{whole_count}
use Rattle.law_plain_terms.proofs.SmallSums.{small_part, small_whole}

-- ---- by a constant

small_shl : (k a : ℕ) → AreSmall (by_constant heads.Shl W32 (part W32 a) k)
unfolding cut_32
small_shl zero a = (refl, refl)
small_shl (suc k) a = small_part (sum_of W32 0 (product_of W32 (2 ^ suc k) 0)) (low W32 (low W32 (2 ^ suc k * 1))) a

small_shl_whole : (k a : ℕ) → IsSmall (by_constant heads.Shl W64 (whole a) k)
small_shl_whole zero a = refl
small_shl_whole (suc k) a = small_whole (sum_of W64 0 (product_of W64 (2 ^ suc k) 0)) (low W64 (low W64 (2 ^ suc k * 1))) a

small_right : (o : Option Width) (h : Head) (e : Extension) (k a : ℕ) (b : Tree) → AreSmall (two_parts h W32 (part W32 a) b) → AreSmall (right_exact o h e W32 k (part W32 a) b)
unfolding cut_32
small_right None h e k a b small = small
small_right (Some m) h e k a b small = small

small_right_whole : (o : Option Width) (h : Head) (e : Extension) (k a : ℕ) (b : Tree) → IsSmall (two_parts h W64 (whole a) b) → IsSmall (right_exact o h e W64 k (whole a) b)
small_right_whole None h e k a b small = small
small_right_whole (Some m) h e k a b small = small

small_shr : (k a : ℕ) → AreSmall (by_constant heads.Shr W32 (part W32 a) k)
unfolding cut_32
small_shr zero a = (refl, refl)
small_shr (suc k) a = small_right (left_of W32 (suc k)) heads.Shr Zero (suc k) a (constant W8 (suc k)) (refl, refl)

small_sar : (k a : ℕ) → AreSmall (by_constant heads.Sar W32 (part W32 a) k)
unfolding cut_32
small_sar zero a = (refl, refl)
small_sar (suc k) a = small_right (left_of W32 (suc k)) heads.Sar Sign (suc k) a (constant W8 (suc k)) (refl, refl)

small_shr_whole : (k a : ℕ) → IsSmall (by_constant heads.Shr W64 (whole a) k)
small_shr_whole zero a = refl
small_shr_whole (suc k) a = small_right_whole (left_of W64 (suc k)) heads.Shr Zero (suc k) a (constant W8 (suc k)) refl

small_sar_whole : (k a : ℕ) → IsSmall (by_constant heads.Sar W64 (whole a) k)
small_sar_whole zero a = refl
small_sar_whole (suc k) a = small_right_whole (left_of W64 (suc k)) heads.Sar Sign (suc k) a (constant W8 (suc k)) refl

-- the count that is left
abbrev rest : ℕ → ℕ → ℕ
rest bits c = low W8 (low W8 c) % bits

slli_low_32 : (a c : ℕ) → AreSmall (shifted heads.Shl W32 (part W32 a) (constant W8 c))
unfolding cut_32
slli_low_32 a c = small_shl (rest 32 c) a

pub slli_32 : (a c : ℕ) → AreSmall (shifted heads.Shl W32 (part W32 a) (constant W64 c))
slli_32 a c = subst AreSmall (whole_count heads.Shl W32 (part W32 a) c) (slli_low_32 a c)

srli_low_32 : (a c : ℕ) → AreSmall (shifted heads.Shr W32 (part W32 a) (constant W8 c))
unfolding cut_32
srli_low_32 a c = small_shr (rest 32 c) a

pub srli_32 : (a c : ℕ) → AreSmall (shifted heads.Shr W32 (part W32 a) (constant W64 c))
srli_32 a c = subst AreSmall (whole_count heads.Shr W32 (part W32 a) c) (srli_low_32 a c)

srai_low_32 : (a c : ℕ) → AreSmall (shifted heads.Sar W32 (part W32 a) (constant W8 c))
unfolding cut_32
srai_low_32 a c = small_sar (rest 32 c) a

pub srai_32 : (a c : ℕ) → AreSmall (shifted heads.Sar W32 (part W32 a) (constant W64 c))
srai_32 a c = subst AreSmall (whole_count heads.Sar W32 (part W32 a) c) (srai_low_32 a c)

slli_low_64 : (a c : ℕ) → IsSmall (shifted heads.Shl W64 (whole a) (constant W8 c))
slli_low_64 a c = small_shl_whole (rest 64 c) a

pub slli_64 : (a c : ℕ) → IsSmall (shifted heads.Shl W64 (whole a) (constant W64 c))
slli_64 a c = subst IsSmall (whole_count heads.Shl W64 (whole a) c) (slli_low_64 a c)

srli_low_64 : (a c : ℕ) → IsSmall (shifted heads.Shr W64 (whole a) (constant W8 c))
srli_low_64 a c = small_shr_whole (rest 64 c) a

pub srli_64 : (a c : ℕ) → IsSmall (shifted heads.Shr W64 (whole a) (constant W64 c))
srli_64 a c = subst IsSmall (whole_count heads.Shr W64 (whole a) c) (srli_low_64 a c)

srai_low_64 : (a c : ℕ) → IsSmall (shifted heads.Sar W64 (whole a) (constant W8 c))
srai_low_64 a c = small_sar_whole (rest 64 c) a

pub srai_64 : (a c : ℕ) → IsSmall (shifted heads.Sar W64 (whole a) (constant W64 c))
srai_64 a c = subst IsSmall (whole_count heads.Sar W64 (whole a) c) (srai_low_64 a c)
