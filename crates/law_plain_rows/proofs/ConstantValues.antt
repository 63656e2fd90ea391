-- Rows of an operation in SI on a register and a constant whose value is extended to DI, of comparisons
-- of a register and a constant, and of a constant alone.
use Rattle.std.proofs.Common.{◌≡◌, suc, pos, [], ◌∷◌, Some, refl}
use Rattle.bits64.specs.declared.Width.{Width}
use Rattle.bits64.specs.declared.Width.TheVariants.{W32, W64}
use Rattle.bits64.specs.declared.operator.Operator.{Operator}
use Rattle.bits64.specs.declared.operator.Operator.TheVariants as operators
use Rattle.bits64.specs.declared.operator.Relation.TheVariants as relation
use Rattle.rtx_tree.specs.declared.code.Code.{Code}
use Rattle.rtx_tree.specs.declared.code.Code.TheVariants as code
use Rattle.rtx_tree.specs.declared.code.Mode.{Mode}
use Rattle.rtx_tree.specs.declared.code.Mode.TheVariants.{SI, DI}
use Rattle.rtl_step.specs.Value.{width_of}
use Rattle.term_tree.specs.declared.head.Head.TheVariants as heads
use Rattle.term_tree.specs.declared.head.Extension.TheVariants.{Zero, Sign}
use Rattle.term_tree.specs.Tree as trees
use Rattle.term_tree.specs.Tree.{Tree}
use Rattle.term_mean.specs.Sums.{constant, summed}
use Rattle.term_mean.specs.Shifts.{shifted}
use Rattle.term_mean.specs.Less.{less_than}
use Rattle.term_mean.specs.Compared.{low_bits}
use Rattle.term_mean.proofs.NormalWidths.{width-built}
use Rattle.sym_state.specs.State.{Register}
use Rattle.sym_state.specs.Makers.{one}
use Rattle.rtx_open.proofs.Expressions.{Written, node, none, with}
use Rattle.law_plain_terms.specs.Rows.{part, whole, truth, IsSmall, binary, converted}
use Rattle.law_plain_terms.proofs.Back.{low_constant_32}
use Rattle.law_plain_terms.proofs.Extended as extended
use Rattle.law_plain_terms.proofs.LessConstant as less
use Rattle.law_plain_terms.proofs.SmallSums as small_sums
use Rattle.law_plain_terms.proofs.SmallShifts as small_shifts
use Rattle.law_plain_terms.proofs.SmallTruths as small_truths
use Rattle.law_plain_states.proofs.Effects.{register, made}
use Rattle.law_plain_states.proofs.Rows.{one_covered}
use Rattle.law_plain_states.proofs.OneLine.{Row}
use Rattle.law_plain_states.proofs.Computes.{is_set}
use Rattle.law_plain_rows.proofs.WithConstant.{With, number, operation_of, word, line_value, small_line, small_count}

-- ---- the rows, by what is particular to each

abbrev pub ConstantValueRow : Mode → Width → (With → Written) → (With → Tree) → Operator → Width → Width → Type 0
ConstantValueRow m w x t op v j = Row m w x t (line_value op v) (λ p. Register (suc p.0) j ∷ []) (λ p. is_set p.0 ∷ [])

row : (m : Mode) (w : Width) (x : With → Written) (t : With → Tree) (op : Operator) (v j : Width) → width_of m ≡ Some w →
    ((p : With) → (made (x p) w).term ≡ t p) → ((p : With) → (made (x p) w).needs ≡ Register (suc p.0) j ∷ []) →
    ((p : With) → IsSmall (t p)) → ((p : With) → IsSmall (line_value op v p)) → ((p : With) → trees.width_of (t p) ≡ w) → ((p : With) → trees.width_of (line_value op v p) ≡ W64) →
    ((p : With) → low_bits w (line_value op v p) ≡ t p) → ConstantValueRow m w x t op v j
row m w x t op v j wide term needs insn_small line_small insn_wide line_wide same = record {
  wide = wide;
  term = term;
  needs = needs;
  covered = λ p. one_covered (suc p.0) j [];
  small_needs = λ p. refl;
  small_asked = λ p. refl;
  insn_small = insn_small;
  line_small = line_small;
  insn_wide = insn_wide;
  line_wide = line_wide;
  same = same;
}

-- ---- values of SI, extended

abbrev pub extends : Code → With → Written
extends c p = node code.SignExtend DI (pos 0) [] (with (operation_of c SI p) none)

pub addi_x : ConstantValueRow DI W64 (extends code.Plus)
    (λ p. converted code.SignExtend W64 (binary code.Plus W32 (part W32 p.0) (constant W32 (word p)))) operators.Add W32 W32
addi_x = row DI W64 (extends code.Plus)
    (λ p. converted code.SignExtend W64 (binary code.Plus W32 (part W32 p.0) (constant W32 (word p)))) operators.Add W32 W32 refl (λ p. refl) (λ p. refl)
    (λ p. (small_sums.addi_32 p.0 (word p)).1) (λ p. small_line (constant W32 (word p)) (low_bits W32 (constant W64 (word p))) (λ t. one [] heads.Sext W64 (summed W32 0 ((1, part W32 p.0) ∷ (1, t) ∷ []))) (low_constant_32 (word p)) (small_sums.addi_32 p.0 (word p)).1)
    (λ p. width-built [] heads.Sext W64 0 [] (summed W32 0 ((1, part W32 p.0) ∷ (1, constant W32 (word p)) ∷ []) ∷ [])) (λ p. width-built [] heads.Sext W64 0 [] (summed W32 0 ((1, part W32 p.0) ∷ (1, low_bits W32 (constant W64 (word p))) ∷ []) ∷ []))
    (λ p. extended.addi_x p.0 (word p))

pub slli_x : ConstantValueRow DI W64 (extends code.Ashift)
    (λ p. converted code.SignExtend W64 (binary code.Ashift W32 (part W32 p.0) (constant W64 (word p)))) operators.Shl W32 W32
slli_x = row DI W64 (extends code.Ashift)
    (λ p. converted code.SignExtend W64 (binary code.Ashift W32 (part W32 p.0) (constant W64 (word p)))) operators.Shl W32 W32 refl (λ p. refl) (λ p. refl)
    (λ p. (small_shifts.slli_32 p.0 (word p)).1) (λ p. small_count heads.Shl p.0 (word p) (small_shifts.slli_32 p.0 (word p)).1)
    (λ p. width-built [] heads.Sext W64 0 [] (shifted heads.Shl W32 (part W32 p.0) (constant W64 (word p)) ∷ [])) (λ p. width-built [] heads.Sext W64 0 [] (shifted heads.Shl W32 (part W32 p.0) (low_bits W32 (constant W64 (word p))) ∷ []))
    (λ p. extended.slli_x p.0 (word p))

pub srli_x : ConstantValueRow DI W64 (extends code.Lshiftrt)
    (λ p. converted code.SignExtend W64 (binary code.Lshiftrt W32 (part W32 p.0) (constant W64 (word p)))) operators.Shr W32 W32
srli_x = row DI W64 (extends code.Lshiftrt)
    (λ p. converted code.SignExtend W64 (binary code.Lshiftrt W32 (part W32 p.0) (constant W64 (word p)))) operators.Shr W32 W32 refl (λ p. refl) (λ p. refl)
    (λ p. (small_shifts.srli_32 p.0 (word p)).1) (λ p. small_count heads.Shr p.0 (word p) (small_shifts.srli_32 p.0 (word p)).1)
    (λ p. width-built [] heads.Sext W64 0 [] (shifted heads.Shr W32 (part W32 p.0) (constant W64 (word p)) ∷ [])) (λ p. width-built [] heads.Sext W64 0 [] (shifted heads.Shr W32 (part W32 p.0) (low_bits W32 (constant W64 (word p))) ∷ []))
    (λ p. extended.srli_x p.0 (word p))

pub srai_x : ConstantValueRow DI W64 (extends code.Ashiftrt)
    (λ p. converted code.SignExtend W64 (binary code.Ashiftrt W32 (part W32 p.0) (constant W64 (word p)))) operators.Sar W32 W32
srai_x = row DI W64 (extends code.Ashiftrt)
    (λ p. converted code.SignExtend W64 (binary code.Ashiftrt W32 (part W32 p.0) (constant W64 (word p)))) operators.Sar W32 W32 refl (λ p. refl) (λ p. refl)
    (λ p. (small_shifts.srai_32 p.0 (word p)).1) (λ p. small_count heads.Sar p.0 (word p) (small_shifts.srai_32 p.0 (word p)).1)
    (λ p. width-built [] heads.Sext W64 0 [] (shifted heads.Sar W32 (part W32 p.0) (constant W64 (word p)) ∷ [])) (λ p. width-built [] heads.Sext W64 0 [] (shifted heads.Sar W32 (part W32 p.0) (low_bits W32 (constant W64 (word p))) ∷ []))
    (λ p. extended.srai_x p.0 (word p))

-- ---- comparisons

abbrev pub compared : Code → Mode → With → Written
compared c m p = node c m (pos 0) [] (with (register DI p.0) (with (number p.1) none))

pub slti_si : ConstantValueRow SI W32 (compared code.Lt SI)
    (λ p. truth code.Lt W32 (whole p.0) (constant W64 (word p))) (operators.Test relation.Lt) W64 W64
slti_si = row SI W32 (compared code.Lt SI)
    (λ p. truth code.Lt W32 (whole p.0) (constant W64 (word p))) (operators.Test relation.Lt) W64 W64 refl (λ p. refl) (λ p. refl)
    (λ p. (small_truths.less_constant p.0 (word p)).1) (λ p. (small_truths.less_constant p.0 (word p)).0)
    (λ p. width-built [] heads.Zext W32 0 [] (less_than Sign W64 (whole p.0) (constant W64 (word p)) ∷ [])) (λ p. width-built [] heads.Zext W64 0 [] (less_than Sign W64 (whole p.0) (constant W64 (word p)) ∷ []))
    (λ p. less.slti_32 p.0 (word p))

pub slti_di : ConstantValueRow DI W64 (compared code.Lt DI)
    (λ p. truth code.Lt W64 (whole p.0) (constant W64 (word p))) (operators.Test relation.Lt) W64 W64
slti_di = row DI W64 (compared code.Lt DI)
    (λ p. truth code.Lt W64 (whole p.0) (constant W64 (word p))) (operators.Test relation.Lt) W64 W64 refl (λ p. refl) (λ p. refl)
    (λ p. (small_truths.less_constant p.0 (word p)).0) (λ p. (small_truths.less_constant p.0 (word p)).0)
    (λ p. width-built [] heads.Zext W64 0 [] (less_than Sign W64 (whole p.0) (constant W64 (word p)) ∷ [])) (λ p. width-built [] heads.Zext W64 0 [] (less_than Sign W64 (whole p.0) (constant W64 (word p)) ∷ []))
    (λ p. less.slti_64 p.0 (word p))

pub sltiu_si : ConstantValueRow SI W32 (compared code.Ltu SI)
    (λ p. truth code.Ltu W32 (whole p.0) (constant W64 (word p))) (operators.Test relation.Ltu) W64 W64
sltiu_si = row SI W32 (compared code.Ltu SI)
    (λ p. truth code.Ltu W32 (whole p.0) (constant W64 (word p))) (operators.Test relation.Ltu) W64 W64 refl (λ p. refl) (λ p. refl)
    (λ p. (small_truths.below_constant p.0 (word p)).1) (λ p. (small_truths.below_constant p.0 (word p)).0)
    (λ p. width-built [] heads.Zext W32 0 [] (less_than Zero W64 (whole p.0) (constant W64 (word p)) ∷ [])) (λ p. width-built [] heads.Zext W64 0 [] (less_than Zero W64 (whole p.0) (constant W64 (word p)) ∷ []))
    (λ p. less.sltiu_32 p.0 (word p))

pub sltiu_di : ConstantValueRow DI W64 (compared code.Ltu DI)
    (λ p. truth code.Ltu W64 (whole p.0) (constant W64 (word p))) (operators.Test relation.Ltu) W64 W64
sltiu_di = row DI W64 (compared code.Ltu DI)
    (λ p. truth code.Ltu W64 (whole p.0) (constant W64 (word p))) (operators.Test relation.Ltu) W64 W64 refl (λ p. refl) (λ p. refl)
    (λ p. (small_truths.below_constant p.0 (word p)).0) (λ p. (small_truths.below_constant p.0 (word p)).0)
    (λ p. width-built [] heads.Zext W64 0 [] (less_than Zero W64 (whole p.0) (constant W64 (word p)) ∷ [])) (λ p. width-built [] heads.Zext W64 0 [] (less_than Zero W64 (whole p.0) (constant W64 (word p)) ∷ []))
    (λ p. less.sltiu_64 p.0 (word p))
