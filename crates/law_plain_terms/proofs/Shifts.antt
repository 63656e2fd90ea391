-- Shifts, by a register and by a constant.
use Rattle.std.proofs.Common.{◌≡◌, ℕ, zero, suc, ◌%◌, ◌^◌, ◌*◌, refl, sym, ◌∙◌, ap, arith, Option, Some, None, [], ◌∷◌}
use Rattle.bits64.specs.declared.Width.{Width}
use Rattle.bits64.specs.declared.Width.TheVariants.{W8, W32, W64}
use Rattle.bits64.specs.Words.{low, sum_of, product_of}
use Rattle.bits64.specs.declared.operator.Operator.TheVariants as operators
use Rattle.rtx_tree.specs.declared.code.Code.TheVariants as code
use Rattle.term_tree.specs.declared.head.Head.{Head}
use Rattle.term_tree.specs.declared.head.Head.TheVariants as heads
use Rattle.term_tree.specs.declared.head.Extension.{Extension}
use Rattle.term_tree.specs.declared.head.Extension.TheVariants.{Zero, Sign}
use Rattle.term_tree.specs.Tree.{Tree}
use Rattle.term_mean.specs.Sums.{constant}
use Rattle.term_mean.specs.Shifts.{by_constant, right_exact, left_of, shifted, shifted_by, two_parts}
use Rattle.term_mean.specs.Masks.{cut_8, cut_32}
use Rattle.term_mean.specs.Compared.{low_bits}
use Rattle.term_mean.proofs.NormalWidths.{width-built}
use Rattle.law_plain_terms.specs.Rows.{part, whole, Shifts, ShiftsBy}
use Rattle.law_plain_terms.proofs.Back.{Back, extended_64, low_same, low_constant_32, low_constant_8, low_constant_64_8, back_atom}

-- ---- by a register

pub sll_32 : Shifts operators.Shl W32 code.Ashift W32
unfolding cut_32 cut_8
sll_32 a b = refl

pub srl_32 : Shifts operators.Shr W32 code.Lshiftrt W32
unfolding cut_32 cut_8
srl_32 a b = refl

pub sra_32 : Shifts operators.Sar W32 code.Ashiftrt W32
unfolding cut_32 cut_8
sra_32 a b = refl

pub sll_64 : Shifts operators.Shl W64 code.Ashift W64
unfolding cut_8
sll_64 a b = refl

pub srl_64 : Shifts operators.Shr W64 code.Lshiftrt W64
unfolding cut_8
srl_64 a b = refl

pub sra_64 : Shifts operators.Sar W64 code.Ashiftrt W64
unfolding cut_8
sra_64 a b = refl

-- ---- by a constant

back_shl : (k a : ℕ) → Back (by_constant heads.Shl W32 (part W32 a) k)
unfolding cut_32
back_shl zero a = refl
back_shl (suc k) a = back_atom (sum_of W32 0 (product_of W32 (2 ^ suc k) 0)) (low W32 (low W32 (2 ^ suc k * 1))) a (omega arith)

back_right : (o : Option Width) (h : Head) (e : Extension) (k a : ℕ) (b : Tree) → Back (two_parts h W32 (part W32 a) b) → Back (right_exact o h e W32 k (part W32 a) b)
unfolding cut_32
back_right None h e k a b back = back
back_right (Some m) h e k a b back = back

back_shr : (k a : ℕ) → Back (by_constant heads.Shr W32 (part W32 a) k)
unfolding cut_32
back_shr zero a = refl
back_shr (suc k) a = back_right (left_of W32 (suc k)) heads.Shr Zero (suc k) a (constant W8 (suc k)) refl

back_sar : (k a : ℕ) → Back (by_constant heads.Sar W32 (part W32 a) k)
unfolding cut_32
back_sar zero a = refl
back_sar (suc k) a = back_right (left_of W32 (suc k)) heads.Sar Sign (suc k) a (constant W8 (suc k)) refl

-- what a constant count is, once cut to 32 bits and then to 8
count_32 : (h : Head) (c a : ℕ) → Back (shifted_by h W32 (part W32 a) (constant W8 c)) →
    low_bits W32 (extended_64 (shifted h W32 (part W32 a) (low_bits W32 (constant W64 c)))) ≡ shifted h W32 (part W32 a) (constant W8 c)
count_32 h c a back =
    ap (λ t. low_bits W32 (extended_64 (shifted h W32 (part W32 a) t))) (low_constant_32 c) ∙ (ap (λ t. low_bits W32 (extended_64 (shifted_by h W32 (part W32 a) t))) (low_constant_8 c) ∙ back)

-- a constant count is cut to 8 bits
pub whole_count : (h : Head) (w : Width) (a : Tree) (c : ℕ) → shifted h w a (constant W8 c) ≡ shifted h w a (constant W64 c)
whole_count h w a c = ap (λ t. shifted_by h w a t) (sym (low_constant_64_8 c))

-- the count that is left
abbrev rest_32 : ℕ → ℕ
rest_32 c = low W8 (low W8 c) % 32

pub slli_32 : ShiftsBy operators.Shl W32 code.Ashift W32
unfolding cut_32
slli_32 a c = count_32 heads.Shl c a (back_shl (rest_32 c) a) ∙ whole_count heads.Shl W32 (part W32 a) c

pub srli_32 : ShiftsBy operators.Shr W32 code.Lshiftrt W32
unfolding cut_32
srli_32 a c = count_32 heads.Shr c a (back_shr (rest_32 c) a) ∙ whole_count heads.Shr W32 (part W32 a) c

pub srai_32 : ShiftsBy operators.Sar W32 code.Ashiftrt W32
unfolding cut_32
srai_32 a c = count_32 heads.Sar c a (back_sar (rest_32 c) a) ∙ whole_count heads.Sar W32 (part W32 a) c

pub slli_64 : ShiftsBy operators.Shl W64 code.Ashift W64
slli_64 a c = low_same W64 (shifted heads.Shl W64 (whole a) (constant W64 c)) (width-built [] heads.Shl W64 0 [] (whole a ∷ constant W64 c ∷ []))

pub srli_64 : ShiftsBy operators.Shr W64 code.Lshiftrt W64
srli_64 a c = low_same W64 (shifted heads.Shr W64 (whole a) (constant W64 c)) (width-built [] heads.Shr W64 0 [] (whole a ∷ constant W64 c ∷ []))

pub srai_64 : ShiftsBy operators.Sar W64 code.Ashiftrt W64
srai_64 a c = low_same W64 (shifted heads.Sar W64 (whole a) (constant W64 c)) (width-built [] heads.Sar W64 0 [] (whole a ∷ constant W64 c ∷ []))
