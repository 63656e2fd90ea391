-- Rows of one register whose text has two lines: extensions by two shifts, and tests for not greater
-- than 0. What the second line leaves is a row; what the first leaves is within the limit.
use Rattle.std.proofs.Common.{◌≡◌, ℕ, refl}
use Rattle.bits64.specs.declared.Width.TheVariants.{W8, W16, W32, W64}
use Rattle.bits64.specs.declared.operator.Operator.TheVariants as operators
use Rattle.bits64.specs.declared.operator.Relation.TheVariants as relation
use Rattle.rtx_tree.specs.declared.code.Code.TheVariants as code
use Rattle.rtx_tree.specs.declared.code.Mode.TheVariants.{QI, HI, SI, DI}
use Rattle.term_tree.specs.Tree as trees
use Rattle.term_tree.specs.Tree.{Tree}
use Rattle.term_mean.specs.Sums.{constant}
use Rattle.term_mean.specs.Less.{less_test}
use Rattle.term_mean.specs.Zero.{zero_test}
use Rattle.term_mean.specs.Masks.{cut_8, cut_16, cut_32, made_8, made_32, made_64}
use Rattle.sym_lines.specs.Compute.{computed}
use Rattle.law_plain_terms.specs.Rows.{part, whole, truth, reversed, shifted, line, IsSmall, converted}
use Rattle.law_plain_terms.proofs.Conversions as conversions
use Rattle.law_plain_terms.proofs.Zeros as zeros
use Rattle.law_plain_rows.proofs.OneRegister.{OneRow, row, operation_of, with_nought}

-- ---- extensions

-- what the shift to the left leaves
abbrev pub left : ℕ → ℕ → Tree
left c a = computed operators.Shl W64 (whole a) (constant W64 c)

pub small_left : (a : ℕ) → IsSmall (left 56 a) × IsSmall (left 48 a) × IsSmall (left 32 a)
unfolding cut_8
small_left a = (refl, refl, refl)

pub wide_left : (a : ℕ) → (trees.width_of (left 56 a) ≡ W64) × (trees.width_of (left 48 a) ≡ W64) × (trees.width_of (left 32 a) ≡ W64)
unfolding cut_8
wide_left a = (refl, refl, refl)

pub sign_qi_si : OneRow SI W32 W8 (operation_of code.SignExtend SI QI)
    (λ a. converted code.SignExtend W32 (part W8 a)) (shifted operators.Sar 56)
unfolding cut_8 cut_32
sign_qi_si = row SI W32 W8 (operation_of code.SignExtend SI QI)
    (λ a. converted code.SignExtend W32 (part W8 a)) (shifted operators.Sar 56)
    refl (λ a. refl) (λ a. refl) (λ a. refl) (λ a. refl) (λ a. refl) (λ a. refl) conversions.sign_8_32

pub sign_qi_di : OneRow DI W64 W8 (operation_of code.SignExtend DI QI)
    (λ a. converted code.SignExtend W64 (part W8 a)) (shifted operators.Sar 56)
unfolding cut_8
sign_qi_di = row DI W64 W8 (operation_of code.SignExtend DI QI)
    (λ a. converted code.SignExtend W64 (part W8 a)) (shifted operators.Sar 56)
    refl (λ a. refl) (λ a. refl) (λ a. refl) (λ a. refl) (λ a. refl) (λ a. refl) conversions.sign_8_64

pub sign_hi_si : OneRow SI W32 W16 (operation_of code.SignExtend SI HI)
    (λ a. converted code.SignExtend W32 (part W16 a)) (shifted operators.Sar 48)
unfolding cut_8 cut_16 cut_32
sign_hi_si = row SI W32 W16 (operation_of code.SignExtend SI HI)
    (λ a. converted code.SignExtend W32 (part W16 a)) (shifted operators.Sar 48)
    refl (λ a. refl) (λ a. refl) (λ a. refl) (λ a. refl) (λ a. refl) (λ a. refl) conversions.sign_16_32

pub sign_hi_di : OneRow DI W64 W16 (operation_of code.SignExtend DI HI)
    (λ a. converted code.SignExtend W64 (part W16 a)) (shifted operators.Sar 48)
unfolding cut_8 cut_16
sign_hi_di = row DI W64 W16 (operation_of code.SignExtend DI HI)
    (λ a. converted code.SignExtend W64 (part W16 a)) (shifted operators.Sar 48)
    refl (λ a. refl) (λ a. refl) (λ a. refl) (λ a. refl) (λ a. refl) (λ a. refl) conversions.sign_16_64

pub zero_hi_si : OneRow SI W32 W16 (operation_of code.ZeroExtend SI HI)
    (λ a. converted code.ZeroExtend W32 (part W16 a)) (shifted operators.Shr 48)
unfolding cut_8 cut_16 cut_32
zero_hi_si = row SI W32 W16 (operation_of code.ZeroExtend SI HI)
    (λ a. converted code.ZeroExtend W32 (part W16 a)) (shifted operators.Shr 48)
    refl (λ a. refl) (λ a. refl) (λ a. refl) (λ a. refl) (λ a. refl) (λ a. refl) conversions.zero_16_32

pub zero_hi_di : OneRow DI W64 W16 (operation_of code.ZeroExtend DI HI)
    (λ a. converted code.ZeroExtend W64 (part W16 a)) (shifted operators.Shr 48)
unfolding cut_8 cut_16
zero_hi_di = row DI W64 W16 (operation_of code.ZeroExtend DI HI)
    (λ a. converted code.ZeroExtend W64 (part W16 a)) (shifted operators.Shr 48)
    refl (λ a. refl) (λ a. refl) (λ a. refl) (λ a. refl) (λ a. refl) (λ a. refl) conversions.zero_16_64

pub zero_si_di : OneRow DI W64 W32 (operation_of code.ZeroExtend DI SI)
    (λ a. converted code.ZeroExtend W64 (part W32 a)) (shifted operators.Shr 32)
unfolding cut_8 cut_32
zero_si_di = row DI W64 W32 (operation_of code.ZeroExtend DI SI)
    (λ a. converted code.ZeroExtend W64 (part W32 a)) (shifted operators.Shr 32)
    refl (λ a. refl) (λ a. refl) (λ a. refl) (λ a. refl) (λ a. refl) (λ a. refl) conversions.zero_32_64

-- ---- not greater than 0

pub small_less : (a : ℕ) → IsSmall (line (operators.Test relation.Lt) (constant W64 0) (whole a)) × IsSmall (line (operators.Test relation.Ltu) (constant W64 0) (whole a))
unfolding less_test zero_test made_8 made_64
small_less a = (refl, refl)

pub wide_less : (a : ℕ) → (trees.width_of (line (operators.Test relation.Lt) (constant W64 0) (whole a)) ≡ W64) × (trees.width_of (line (operators.Test relation.Ltu) (constant W64 0) (whole a)) ≡ W64)
unfolding less_test zero_test made_8 made_64
wide_less a = (refl, refl)

pub sle_zero_si : OneRow SI W32 W64 (with_nought code.Le SI DI)
    (λ a. truth code.Le W32 (whole a) (constant W64 0)) (λ a. reversed (line (operators.Test relation.Lt) (constant W64 0) (whole a)))
unfolding less_test made_8 made_64 cut_32 made_32
sle_zero_si = row SI W32 W64 (with_nought code.Le SI DI)
    (λ a. truth code.Le W32 (whole a) (constant W64 0)) (λ a. reversed (line (operators.Test relation.Lt) (constant W64 0) (whole a)))
    refl (λ a. refl) (λ a. refl) (λ a. refl) (λ a. refl) (λ a. refl) (λ a. refl) zeros.sle_zero_32

pub sle_zero_di : OneRow DI W64 W64 (with_nought code.Le DI DI)
    (λ a. truth code.Le W64 (whole a) (constant W64 0)) (λ a. reversed (line (operators.Test relation.Lt) (constant W64 0) (whole a)))
unfolding less_test made_8 made_64
sle_zero_di = row DI W64 W64 (with_nought code.Le DI DI)
    (λ a. truth code.Le W64 (whole a) (constant W64 0)) (λ a. reversed (line (operators.Test relation.Lt) (constant W64 0) (whole a)))
    refl (λ a. refl) (λ a. refl) (λ a. refl) (λ a. refl) (λ a. refl) (λ a. refl) zeros.sle_zero_64

pub sleu_zero_si : OneRow SI W32 W64 (with_nought code.Leu SI DI)
    (λ a. truth code.Leu W32 (whole a) (constant W64 0)) (λ a. reversed (line (operators.Test relation.Ltu) (constant W64 0) (whole a)))
unfolding less_test zero_test made_8 made_64 cut_32 made_32
sleu_zero_si = row SI W32 W64 (with_nought code.Leu SI DI)
    (λ a. truth code.Leu W32 (whole a) (constant W64 0)) (λ a. reversed (line (operators.Test relation.Ltu) (constant W64 0) (whole a)))
    refl (λ a. refl) (λ a. refl) (λ a. refl) (λ a. refl) (λ a. refl) (λ a. refl) zeros.sleu_zero_32

pub sleu_zero_di : OneRow DI W64 W64 (with_nought code.Leu DI DI)
    (λ a. truth code.Leu W64 (whole a) (constant W64 0)) (λ a. reversed (line (operators.Test relation.Ltu) (constant W64 0) (whole a)))
unfolding less_test zero_test made_8 made_64
sleu_zero_di = row DI W64 W64 (with_nought code.Leu DI DI)
    (λ a. truth code.Leu W64 (whole a) (constant W64 0)) (λ a. reversed (line (operators.Test relation.Ltu) (constant W64 0) (whole a)))
    refl (λ a. refl) (λ a. refl) (λ a. refl) (λ a. refl) (λ a. refl) (λ a. refl) zeros.sleu_zero_64
