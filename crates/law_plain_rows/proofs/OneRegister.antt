-- Rows of one register: the negative, the complement, extensions and truncations by one line, and
-- tests for 0; and rows of register zero and another.
use Rattle.std.proofs.Common.{◌≡◌, ℕ, suc, pos, [], ◌∷◌, Some, refl}
use Rattle.bits64.specs.declared.Width.{Width}
use Rattle.bits64.specs.declared.Width.TheVariants.{W8, W16, W32, W64}
use Rattle.bits64.specs.declared.operator.Operator.TheVariants as operators
use Rattle.bits64.specs.declared.operator.Relation.TheVariants as relation
use Rattle.rtx_tree.specs.declared.code.Code.{Code}
use Rattle.rtx_tree.specs.declared.code.Code.TheVariants as code
use Rattle.rtx_tree.specs.declared.code.Mode.{Mode}
use Rattle.rtx_tree.specs.declared.code.Mode.TheVariants.{Void, QI, HI, SI, DI}
use Rattle.rtl_step.specs.Value.{width_of}
use Rattle.term_tree.specs.Tree as trees
use Rattle.term_tree.specs.Tree.{Tree}
use Rattle.term_mean.specs.Sums.{constant}
use Rattle.term_mean.specs.Less.{less_test}
use Rattle.term_mean.specs.Zero.{zero_test}
use Rattle.term_mean.specs.Masks.{cut_8, cut_16, cut_32, made_8, made_32, made_64}
use Rattle.term_mean.specs.Compared.{low_bits}
use Rattle.sym_state.specs.State.{Register}
use Rattle.sym_lines.specs.Compute.{computed}
use Rattle.rtx_open.proofs.Expressions.{Written, node, none, with}
use Rattle.law_plain_terms.specs.Rows.{part, whole, truth, IsSmall, unary, binary, converted}
use Rattle.law_plain_terms.proofs.Sums as sums
use Rattle.law_plain_terms.proofs.Conversions as conversions
use Rattle.law_plain_terms.proofs.Moves as moves
use Rattle.law_plain_terms.proofs.Zeros as zeros
use Rattle.law_plain_states.proofs.Effects.{register, made}
use Rattle.law_plain_states.proofs.Rows.{one_covered}
use Rattle.law_plain_states.proofs.OneLine.{Row}
use Rattle.law_plain_states.proofs.Computes.{is_set}

-- an operation on a register of a mode, and on that and 0
abbrev pub operation_of : Code → Mode → Mode → ℕ → Written
operation_of c m o a = node c m (pos 0) [] (with (register o a) none)

abbrev pub nought : Written
nought = node code.ConstInt Void (pos 0) [] none

abbrev pub with_nought : Code → Mode → Mode → ℕ → Written
with_nought c m o a = node c m (pos 0) [] (with (register o a) (with nought none))

abbrev pub from_nought : Code → Mode → Mode → ℕ → Written
from_nought c m o a = node c m (pos 0) [] (with nought (with (register o a) none))

-- ---- the rows, by what is particular to each: the instruction reads so many bits of the register

abbrev pub OneRow : Mode → Width → Width → (ℕ → Written) → (ℕ → Tree) → (ℕ → Tree) → Type 0
OneRow m w o x t u = Row m w x t u (λ a. Register (suc a) o ∷ []) (λ a. is_set a ∷ [])

pub row : (m : Mode) (w o : Width) (x : ℕ → Written) (t u : ℕ → Tree) → width_of m ≡ Some w → ((a : ℕ) → (made (x a) w).term ≡ t a) → ((a : ℕ) → (made (x a) w).needs ≡ Register (suc a) o ∷ []) →
    ((a : ℕ) → IsSmall (t a)) → ((a : ℕ) → IsSmall (u a)) → ((a : ℕ) → trees.width_of (t a) ≡ w) → ((a : ℕ) → trees.width_of (u a) ≡ W64) → ((a : ℕ) → low_bits w (u a) ≡ t a) → OneRow m w o x t u
row m w o x t u wide term needs insn_small line_small insn_wide line_wide same = record {
  wide = wide;
  term = term;
  needs = needs;
  covered = λ a. one_covered (suc a) o [];
  small_needs = λ a. refl;
  small_asked = λ a. refl;
  insn_small = insn_small;
  line_small = line_small;
  insn_wide = insn_wide;
  line_wide = line_wide;
  same = same;
}

-- ---- the negative and the complement

pub neg_si : OneRow SI W32 W32 (operation_of code.Neg SI SI)
    (λ a. unary code.Neg W32 (part W32 a)) (λ a. computed operators.Sub W32 (constant W64 0) (whole a))
unfolding cut_32
neg_si = row SI W32 W32 (operation_of code.Neg SI SI)
    (λ a. unary code.Neg W32 (part W32 a)) (λ a. computed operators.Sub W32 (constant W64 0) (whole a))
    refl (λ a. refl) (λ a. refl) (λ a. refl) (λ a. refl) (λ a. refl) (λ a. refl) sums.neg_32

pub neg_di : OneRow DI W64 W64 (operation_of code.Neg DI DI)
    (λ a. unary code.Neg W64 (part W64 a)) (λ a. computed operators.Sub W64 (constant W64 0) (whole a))
neg_di = row DI W64 W64 (operation_of code.Neg DI DI)
    (λ a. unary code.Neg W64 (part W64 a)) (λ a. computed operators.Sub W64 (constant W64 0) (whole a))
    refl (λ a. refl) (λ a. refl) (λ a. refl) (λ a. refl) (λ a. refl) (λ a. refl) sums.neg_64

pub not_si : OneRow SI W32 W32 (operation_of code.Not SI SI)
    (λ a. unary code.Not W32 (part W32 a)) (λ a. computed operators.Not W64 (whole a) (constant W64 0))
unfolding cut_32
not_si = row SI W32 W32 (operation_of code.Not SI SI)
    (λ a. unary code.Not W32 (part W32 a)) (λ a. computed operators.Not W64 (whole a) (constant W64 0))
    refl (λ a. refl) (λ a. refl) (λ a. refl) (λ a. refl) (λ a. refl) (λ a. refl) conversions.not_32

pub not_di : OneRow DI W64 W64 (operation_of code.Not DI DI)
    (λ a. unary code.Not W64 (part W64 a)) (λ a. computed operators.Not W64 (whole a) (constant W64 0))
not_di = row DI W64 W64 (operation_of code.Not DI DI)
    (λ a. unary code.Not W64 (part W64 a)) (λ a. computed operators.Not W64 (whole a) (constant W64 0))
    refl (λ a. refl) (λ a. refl) (λ a. refl) (λ a. refl) (λ a. refl) (λ a. refl) conversions.not_64

-- ---- differences from 0

pub from_zero_si : OneRow SI W32 W32 (from_nought code.Minus SI SI)
    (λ b. binary code.Minus W32 (constant W32 0) (part W32 b)) (λ b. computed operators.Sub W32 (constant W64 0) (whole b))
unfolding cut_32
from_zero_si = row SI W32 W32 (from_nought code.Minus SI SI)
    (λ b. binary code.Minus W32 (constant W32 0) (part W32 b)) (λ b. computed operators.Sub W32 (constant W64 0) (whole b))
    refl (λ a. refl) (λ a. refl) (λ a. refl) (λ a. refl) (λ a. refl) (λ a. refl) sums.sub_zero_32

pub from_zero_di : OneRow DI W64 W64 (from_nought code.Minus DI DI)
    (λ b. binary code.Minus W64 (constant W64 0) (part W64 b)) (λ b. computed operators.Sub W64 (constant W64 0) (whole b))
from_zero_di = row DI W64 W64 (from_nought code.Minus DI DI)
    (λ b. binary code.Minus W64 (constant W64 0) (part W64 b)) (λ b. computed operators.Sub W64 (constant W64 0) (whole b))
    refl (λ a. refl) (λ a. refl) (λ a. refl) (λ a. refl) (λ a. refl) (λ a. refl) sums.sub_zero_64

-- ---- extensions and truncations

pub sign_si_di : OneRow DI W64 W32 (operation_of code.SignExtend DI SI)
    (λ a. converted code.SignExtend W64 (part W32 a)) (λ a. computed operators.Add W32 (whole a) (constant W64 0))
unfolding cut_32
sign_si_di = row DI W64 W32 (operation_of code.SignExtend DI SI)
    (λ a. converted code.SignExtend W64 (part W32 a)) (λ a. computed operators.Add W32 (whole a) (constant W64 0))
    refl (λ a. refl) (λ a. refl) (λ a. refl) (λ a. refl) (λ a. refl) (λ a. refl) conversions.sign_32_64

pub zero_qi_si : OneRow SI W32 W8 (operation_of code.ZeroExtend SI QI)
    (λ a. converted code.ZeroExtend W32 (part W8 a)) (λ a. computed operators.And W64 (whole a) (constant W64 255))
unfolding cut_8 cut_32 made_64
zero_qi_si = row SI W32 W8 (operation_of code.ZeroExtend SI QI)
    (λ a. converted code.ZeroExtend W32 (part W8 a)) (λ a. computed operators.And W64 (whole a) (constant W64 255))
    refl (λ a. refl) (λ a. refl) (λ a. refl) (λ a. refl) (λ a. refl) (λ a. refl) conversions.zero_8_32

pub zero_qi_di : OneRow DI W64 W8 (operation_of code.ZeroExtend DI QI)
    (λ a. converted code.ZeroExtend W64 (part W8 a)) (λ a. computed operators.And W64 (whole a) (constant W64 255))
unfolding cut_8 made_64
zero_qi_di = row DI W64 W8 (operation_of code.ZeroExtend DI QI)
    (λ a. converted code.ZeroExtend W64 (part W8 a)) (λ a. computed operators.And W64 (whole a) (constant W64 255))
    refl (λ a. refl) (λ a. refl) (λ a. refl) (λ a. refl) (λ a. refl) (λ a. refl) conversions.zero_8_64

pub cut_di_qi : OneRow QI W8 W64 (operation_of code.Truncate QI DI)
    (λ a. converted code.Truncate W8 (part W64 a)) (λ a. computed operators.Add W64 (whole a) (constant W64 0))
unfolding cut_8
cut_di_qi = row QI W8 W64 (operation_of code.Truncate QI DI)
    (λ a. converted code.Truncate W8 (part W64 a)) (λ a. computed operators.Add W64 (whole a) (constant W64 0))
    refl (λ a. refl) (λ a. refl) (λ a. refl) (λ a. refl) (λ a. refl) (λ a. refl) conversions.cut_64_8

pub cut_di_hi : OneRow HI W16 W64 (operation_of code.Truncate HI DI)
    (λ a. converted code.Truncate W16 (part W64 a)) (λ a. computed operators.Add W64 (whole a) (constant W64 0))
unfolding cut_16
cut_di_hi = row HI W16 W64 (operation_of code.Truncate HI DI)
    (λ a. converted code.Truncate W16 (part W64 a)) (λ a. computed operators.Add W64 (whole a) (constant W64 0))
    refl (λ a. refl) (λ a. refl) (λ a. refl) (λ a. refl) (λ a. refl) (λ a. refl) conversions.cut_64_16

pub cut_di_si : OneRow SI W32 W64 (operation_of code.Truncate SI DI)
    (λ a. converted code.Truncate W32 (part W64 a)) (λ a. computed operators.Add W64 (whole a) (constant W64 0))
unfolding cut_32
cut_di_si = row SI W32 W64 (operation_of code.Truncate SI DI)
    (λ a. converted code.Truncate W32 (part W64 a)) (λ a. computed operators.Add W64 (whole a) (constant W64 0))
    refl (λ a. refl) (λ a. refl) (λ a. refl) (λ a. refl) (λ a. refl) (λ a. refl) conversions.cut_64_32

pub cut_si_qi : OneRow QI W8 W32 (operation_of code.Truncate QI SI)
    (λ a. converted code.Truncate W8 (part W32 a)) (λ a. computed operators.Add W64 (whole a) (constant W64 0))
unfolding cut_8 cut_32
cut_si_qi = row QI W8 W32 (operation_of code.Truncate QI SI)
    (λ a. converted code.Truncate W8 (part W32 a)) (λ a. computed operators.Add W64 (whole a) (constant W64 0))
    refl (λ a. refl) (λ a. refl) (λ a. refl) (λ a. refl) (λ a. refl) (λ a. refl) conversions.cut_32_8

pub cut_si_hi : OneRow HI W16 W32 (operation_of code.Truncate HI SI)
    (λ a. converted code.Truncate W16 (part W32 a)) (λ a. computed operators.Add W64 (whole a) (constant W64 0))
unfolding cut_16 cut_32
cut_si_hi = row HI W16 W32 (operation_of code.Truncate HI SI)
    (λ a. converted code.Truncate W16 (part W32 a)) (λ a. computed operators.Add W64 (whole a) (constant W64 0))
    refl (λ a. refl) (λ a. refl) (λ a. refl) (λ a. refl) (λ a. refl) (λ a. refl) conversions.cut_32_16

-- ---- copies

pub copy_qi : OneRow QI W8 W8 (register QI)
    (part W8) (λ a. computed operators.Add W64 (whole a) (constant W64 0))
unfolding cut_8
copy_qi = row QI W8 W8 (register QI)
    (part W8) (λ a. computed operators.Add W64 (whole a) (constant W64 0))
    refl (λ a. refl) (λ a. refl) (λ a. refl) (λ a. refl) (λ a. refl) (λ a. refl) moves.copy_8

pub copy_hi : OneRow HI W16 W16 (register HI)
    (part W16) (λ a. computed operators.Add W64 (whole a) (constant W64 0))
unfolding cut_16
copy_hi = row HI W16 W16 (register HI)
    (part W16) (λ a. computed operators.Add W64 (whole a) (constant W64 0))
    refl (λ a. refl) (λ a. refl) (λ a. refl) (λ a. refl) (λ a. refl) (λ a. refl) moves.copy_16

pub copy_si : OneRow SI W32 W32 (register SI)
    (part W32) (λ a. computed operators.Add W64 (whole a) (constant W64 0))
unfolding cut_32
copy_si = row SI W32 W32 (register SI)
    (part W32) (λ a. computed operators.Add W64 (whole a) (constant W64 0))
    refl (λ a. refl) (λ a. refl) (λ a. refl) (λ a. refl) (λ a. refl) (λ a. refl) moves.copy_32

pub copy_di : OneRow DI W64 W64 (register DI)
    (part W64) (λ a. computed operators.Add W64 (whole a) (constant W64 0))
copy_di = row DI W64 W64 (register DI)
    (part W64) (λ a. computed operators.Add W64 (whole a) (constant W64 0))
    refl (λ a. refl) (λ a. refl) (λ a. refl) (λ a. refl) (λ a. refl) (λ a. refl) moves.copy_64

-- ---- whether a register is 0, and whether it is greater than 0

pub seqz_si : OneRow SI W32 W64 (with_nought code.Eq SI DI)
    (λ a. truth code.Eq W32 (whole a) (constant W64 0)) (λ a. computed (operators.Test relation.Ltu) W64 (whole a) (constant W64 1))
unfolding less_test zero_test cut_32
seqz_si = row SI W32 W64 (with_nought code.Eq SI DI)
    (λ a. truth code.Eq W32 (whole a) (constant W64 0)) (λ a. computed (operators.Test relation.Ltu) W64 (whole a) (constant W64 1))
    refl (λ a. refl) (λ a. refl) (λ a. refl) (λ a. refl) (λ a. refl) (λ a. refl) zeros.seqz_32

pub snez_si : OneRow SI W32 W64 (with_nought code.Ne SI DI)
    (λ a. truth code.Ne W32 (whole a) (constant W64 0)) (λ a. computed (operators.Test relation.Ltu) W64 (constant W64 0) (whole a))
unfolding less_test zero_test made_8 made_64 cut_32 made_32
snez_si = row SI W32 W64 (with_nought code.Ne SI DI)
    (λ a. truth code.Ne W32 (whole a) (constant W64 0)) (λ a. computed (operators.Test relation.Ltu) W64 (constant W64 0) (whole a))
    refl (λ a. refl) (λ a. refl) (λ a. refl) (λ a. refl) (λ a. refl) (λ a. refl) zeros.snez_32

pub sgt_zero_si : OneRow SI W32 W64 (with_nought code.Gt SI DI)
    (λ a. truth code.Gt W32 (whole a) (constant W64 0)) (λ a. computed (operators.Test relation.Lt) W64 (constant W64 0) (whole a))
unfolding less_test cut_32
sgt_zero_si = row SI W32 W64 (with_nought code.Gt SI DI)
    (λ a. truth code.Gt W32 (whole a) (constant W64 0)) (λ a. computed (operators.Test relation.Lt) W64 (constant W64 0) (whole a))
    refl (λ a. refl) (λ a. refl) (λ a. refl) (λ a. refl) (λ a. refl) (λ a. refl) zeros.sgt_zero_32

pub sgtu_zero_si : OneRow SI W32 W64 (with_nought code.Gtu SI DI)
    (λ a. truth code.Gtu W32 (whole a) (constant W64 0)) (λ a. computed (operators.Test relation.Ltu) W64 (constant W64 0) (whole a))
unfolding less_test zero_test made_8 made_64 cut_32 made_32
sgtu_zero_si = row SI W32 W64 (with_nought code.Gtu SI DI)
    (λ a. truth code.Gtu W32 (whole a) (constant W64 0)) (λ a. computed (operators.Test relation.Ltu) W64 (constant W64 0) (whole a))
    refl (λ a. refl) (λ a. refl) (λ a. refl) (λ a. refl) (λ a. refl) (λ a. refl) zeros.sgtu_zero_32

pub seqz_di : OneRow DI W64 W64 (with_nought code.Eq DI DI)
    (λ a. truth code.Eq W64 (whole a) (constant W64 0)) (λ a. computed (operators.Test relation.Ltu) W64 (whole a) (constant W64 1))
unfolding less_test zero_test
seqz_di = row DI W64 W64 (with_nought code.Eq DI DI)
    (λ a. truth code.Eq W64 (whole a) (constant W64 0)) (λ a. computed (operators.Test relation.Ltu) W64 (whole a) (constant W64 1))
    refl (λ a. refl) (λ a. refl) (λ a. refl) (λ a. refl) (λ a. refl) (λ a. refl) zeros.seqz_64

pub snez_di : OneRow DI W64 W64 (with_nought code.Ne DI DI)
    (λ a. truth code.Ne W64 (whole a) (constant W64 0)) (λ a. computed (operators.Test relation.Ltu) W64 (constant W64 0) (whole a))
unfolding less_test zero_test made_8 made_64
snez_di = row DI W64 W64 (with_nought code.Ne DI DI)
    (λ a. truth code.Ne W64 (whole a) (constant W64 0)) (λ a. computed (operators.Test relation.Ltu) W64 (constant W64 0) (whole a))
    refl (λ a. refl) (λ a. refl) (λ a. refl) (λ a. refl) (λ a. refl) (λ a. refl) zeros.snez_64

pub sgt_zero_di : OneRow DI W64 W64 (with_nought code.Gt DI DI)
    (λ a. truth code.Gt W64 (whole a) (constant W64 0)) (λ a. computed (operators.Test relation.Lt) W64 (constant W64 0) (whole a))
unfolding less_test
sgt_zero_di = row DI W64 W64 (with_nought code.Gt DI DI)
    (λ a. truth code.Gt W64 (whole a) (constant W64 0)) (λ a. computed (operators.Test relation.Lt) W64 (constant W64 0) (whole a))
    refl (λ a. refl) (λ a. refl) (λ a. refl) (λ a. refl) (λ a. refl) (λ a. refl) zeros.sgt_zero_64

pub sgtu_zero_di : OneRow DI W64 W64 (with_nought code.Gtu DI DI)
    (λ a. truth code.Gtu W64 (whole a) (constant W64 0)) (λ a. computed (operators.Test relation.Ltu) W64 (constant W64 0) (whole a))
unfolding less_test zero_test made_8 made_64
sgtu_zero_di = row DI W64 W64 (with_nought code.Gtu DI DI)
    (λ a. truth code.Gtu W64 (whole a) (constant W64 0)) (λ a. computed (operators.Test relation.Ltu) W64 (constant W64 0) (whole a))
    refl (λ a. refl) (λ a. refl) (λ a. refl) (λ a. refl) (λ a. refl) (λ a. refl) zeros.sgtu_zero_64
