-- Rows of an operation in SI on two registers whose value is extended to DI, and of comparisons of two
-- registers.
use Rattle.std.proofs.Common.{◌≡◌, suc, pos, [], ◌∷◌, Some, refl}
use Rattle.bits64.specs.declared.Width.{Width}
use Rattle.bits64.specs.declared.Width.TheVariants.{W8, W32, W64}
use Rattle.bits64.specs.declared.operator.Operator.{Operator}
use Rattle.bits64.specs.declared.operator.Operator.TheVariants as operators
use Rattle.bits64.specs.declared.operator.Relation.TheVariants as relation
use Rattle.rtx_tree.specs.declared.code.Code.{Code}
use Rattle.rtx_tree.specs.declared.code.Code.TheVariants as code
use Rattle.rtx_tree.specs.declared.code.Mode.{Mode}
use Rattle.rtx_tree.specs.declared.code.Mode.TheVariants.{QI, SI, DI}
use Rattle.rtl_step.specs.Value.{width_of}
use Rattle.term_tree.specs.declared.head.Head.TheVariants as heads
use Rattle.term_tree.specs.declared.head.Extension.TheVariants.{Zero, Sign}
use Rattle.term_tree.specs.Tree as trees
use Rattle.term_tree.specs.Tree.{Tree}
use Rattle.term_mean.specs.Sums.{summed}
use Rattle.term_mean.specs.Less.{less_than}
use Rattle.term_mean.specs.Masks.{cut_8, cut_32}
use Rattle.term_mean.specs.Compared.{low_bits}
use Rattle.term_mean.proofs.NormalWidths.{width-built}
use Rattle.sym_state.specs.Makers.{minus_one}
use Rattle.rtx_open.proofs.Expressions.{Written, node, none, with}
use Rattle.law_plain_terms.specs.Rows.{part, whole, truth, IsSmall, binary, converted}
use Rattle.law_plain_terms.proofs.Extended as extended
use Rattle.law_plain_terms.proofs.Comparisons as comparisons
use Rattle.law_plain_terms.proofs.SmallSums as small_sums
use Rattle.law_plain_terms.proofs.SmallTruths as small_truths
use Rattle.law_plain_states.proofs.Effects.{register, made}
use Rattle.law_plain_states.proofs.Rows.{two_covered}
use Rattle.law_plain_states.proofs.OneLine.{Row}
use Rattle.law_plain_states.proofs.Computes.{is_set}
use Rattle.law_plain_rows.proofs.TwoRegisters.{Two, operation_of, line_value, bits}

-- ---- the rows, by what is particular to each

abbrev pub ValueRow : Mode → Width → (Two → Written) → (Two → Tree) → Operator → Width → Width → Width → Type 0
ValueRow m w x t op v j k = Row m w x t (line_value op v) (λ p. bits j k p []) (λ p. is_set p.0 ∷ is_set p.1 ∷ [])

row : (m : Mode) (w : Width) (x : Two → Written) (t : Two → Tree) (op : Operator) (v j k : Width) → width_of m ≡ Some w →
    ((p : Two) → (made (x p) w).term ≡ t p) → ((p : Two) → (made (x p) w).needs ≡ bits j k p []) →
    ((p : Two) → IsSmall (t p)) → ((p : Two) → IsSmall (line_value op v p)) → ((p : Two) → trees.width_of (t p) ≡ w) → ((p : Two) → trees.width_of (line_value op v p) ≡ W64) →
    ((p : Two) → low_bits w (line_value op v p) ≡ t p) → ValueRow m w x t op v j k
row m w x t op v j k wide term needs insn_small line_small insn_wide line_wide same = record {
  wide = wide;
  term = term;
  needs = needs;
  covered = λ p. two_covered (suc p.0) (suc p.1) j k [];
  small_needs = λ p. refl;
  small_asked = λ p. refl;
  insn_small = insn_small;
  line_small = line_small;
  insn_wide = insn_wide;
  line_wide = line_wide;
  same = same;
}

-- ---- values of SI, extended

abbrev pub extends : Code → Mode → Two → Written
extends c o p = node code.SignExtend DI (pos 0) [] (with (operation_of c SI o p) none)

pub add_x : ValueRow DI W64 (extends code.Plus SI)
    (λ p. converted code.SignExtend W64 (binary code.Plus W32 (part W32 p.0) (part W32 p.1))) operators.Add W32 W32 W32
add_x = row DI W64 (extends code.Plus SI)
    (λ p. converted code.SignExtend W64 (binary code.Plus W32 (part W32 p.0) (part W32 p.1))) operators.Add W32 W32 W32 refl (λ p. refl) (λ p. refl)
    (λ p. (small_sums.add_32 p.0 p.1).1) (λ p. (small_sums.add_32 p.0 p.1).1)
    (λ p. width-built [] heads.Sext W64 0 [] (summed W32 0 ((1, part W32 p.0) ∷ (1, part W32 p.1) ∷ []) ∷ [])) (λ p. width-built [] heads.Sext W64 0 [] (summed W32 0 ((1, part W32 p.0) ∷ (1, part W32 p.1) ∷ []) ∷ []))
    (λ p. extended.add_x p.0 p.1)

pub sub_x : ValueRow DI W64 (extends code.Minus SI)
    (λ p. converted code.SignExtend W64 (binary code.Minus W32 (part W32 p.0) (part W32 p.1))) operators.Sub W32 W32 W32
sub_x = row DI W64 (extends code.Minus SI)
    (λ p. converted code.SignExtend W64 (binary code.Minus W32 (part W32 p.0) (part W32 p.1))) operators.Sub W32 W32 W32 refl (λ p. refl) (λ p. refl)
    (λ p. (small_sums.sub_32 p.0 p.1).1) (λ p. (small_sums.sub_32 p.0 p.1).1)
    (λ p. width-built [] heads.Sext W64 0 [] (summed W32 0 ((1, part W32 p.0) ∷ (minus_one W32, part W32 p.1) ∷ []) ∷ [])) (λ p. width-built [] heads.Sext W64 0 [] (summed W32 0 ((1, part W32 p.0) ∷ (minus_one W32, part W32 p.1) ∷ []) ∷ []))
    (λ p. extended.sub_x p.0 p.1)

pub sll_x : ValueRow DI W64 (extends code.Ashift QI)
    (λ p. converted code.SignExtend W64 (binary code.Ashift W32 (part W32 p.0) (part W8 p.1))) operators.Shl W32 W32 W8
unfolding cut_8 cut_32
sll_x = row DI W64 (extends code.Ashift QI)
    (λ p. converted code.SignExtend W64 (binary code.Ashift W32 (part W32 p.0) (part W8 p.1))) operators.Shl W32 W32 W8 refl (λ p. refl) (λ p. refl)
    (λ p. refl) (λ p. refl)
    (λ p. refl) (λ p. refl)
    (λ p. extended.sll_x p.0 p.1)

pub srl_x : ValueRow DI W64 (extends code.Lshiftrt QI)
    (λ p. converted code.SignExtend W64 (binary code.Lshiftrt W32 (part W32 p.0) (part W8 p.1))) operators.Shr W32 W32 W8
unfolding cut_8 cut_32
srl_x = row DI W64 (extends code.Lshiftrt QI)
    (λ p. converted code.SignExtend W64 (binary code.Lshiftrt W32 (part W32 p.0) (part W8 p.1))) operators.Shr W32 W32 W8 refl (λ p. refl) (λ p. refl)
    (λ p. refl) (λ p. refl)
    (λ p. refl) (λ p. refl)
    (λ p. extended.srl_x p.0 p.1)

pub sra_x : ValueRow DI W64 (extends code.Ashiftrt QI)
    (λ p. converted code.SignExtend W64 (binary code.Ashiftrt W32 (part W32 p.0) (part W8 p.1))) operators.Sar W32 W32 W8
unfolding cut_8 cut_32
sra_x = row DI W64 (extends code.Ashiftrt QI)
    (λ p. converted code.SignExtend W64 (binary code.Ashiftrt W32 (part W32 p.0) (part W8 p.1))) operators.Sar W32 W32 W8 refl (λ p. refl) (λ p. refl)
    (λ p. refl) (λ p. refl)
    (λ p. refl) (λ p. refl)
    (λ p. extended.sra_x p.0 p.1)

-- ---- comparisons

abbrev pub compared : Code → Mode → Two → Written
compared c m p = node c m (pos 0) [] (with (register DI p.0) (with (register DI p.1) none))

pub slt_si : ValueRow SI W32 (compared code.Lt SI)
    (λ p. truth code.Lt W32 (whole p.0) (whole p.1)) (operators.Test relation.Lt) W64 W64 W64
slt_si = row SI W32 (compared code.Lt SI)
    (λ p. truth code.Lt W32 (whole p.0) (whole p.1)) (operators.Test relation.Lt) W64 W64 W64 refl (λ p. refl) (λ p. refl)
    (λ p. (small_truths.less Sign p.0 p.1).1) (λ p. (small_truths.less Sign p.0 p.1).0)
    (λ p. width-built [] heads.Zext W32 0 [] (less_than Sign W64 (whole p.0) (whole p.1) ∷ [])) (λ p. width-built [] heads.Zext W64 0 [] (less_than Sign W64 (whole p.0) (whole p.1) ∷ []))
    (λ p. comparisons.slt_32 p.0 p.1)

pub slt_di : ValueRow DI W64 (compared code.Lt DI)
    (λ p. truth code.Lt W64 (whole p.0) (whole p.1)) (operators.Test relation.Lt) W64 W64 W64
slt_di = row DI W64 (compared code.Lt DI)
    (λ p. truth code.Lt W64 (whole p.0) (whole p.1)) (operators.Test relation.Lt) W64 W64 W64 refl (λ p. refl) (λ p. refl)
    (λ p. (small_truths.less Sign p.0 p.1).0) (λ p. (small_truths.less Sign p.0 p.1).0)
    (λ p. width-built [] heads.Zext W64 0 [] (less_than Sign W64 (whole p.0) (whole p.1) ∷ [])) (λ p. width-built [] heads.Zext W64 0 [] (less_than Sign W64 (whole p.0) (whole p.1) ∷ []))
    (λ p. comparisons.slt_64 p.0 p.1)

pub sltu_si : ValueRow SI W32 (compared code.Ltu SI)
    (λ p. truth code.Ltu W32 (whole p.0) (whole p.1)) (operators.Test relation.Ltu) W64 W64 W64
sltu_si = row SI W32 (compared code.Ltu SI)
    (λ p. truth code.Ltu W32 (whole p.0) (whole p.1)) (operators.Test relation.Ltu) W64 W64 W64 refl (λ p. refl) (λ p. refl)
    (λ p. (small_truths.less Zero p.0 p.1).1) (λ p. (small_truths.less Zero p.0 p.1).0)
    (λ p. width-built [] heads.Zext W32 0 [] (less_than Zero W64 (whole p.0) (whole p.1) ∷ [])) (λ p. width-built [] heads.Zext W64 0 [] (less_than Zero W64 (whole p.0) (whole p.1) ∷ []))
    (λ p. comparisons.sltu_32 p.0 p.1)

pub sltu_di : ValueRow DI W64 (compared code.Ltu DI)
    (λ p. truth code.Ltu W64 (whole p.0) (whole p.1)) (operators.Test relation.Ltu) W64 W64 W64
sltu_di = row DI W64 (compared code.Ltu DI)
    (λ p. truth code.Ltu W64 (whole p.0) (whole p.1)) (operators.Test relation.Ltu) W64 W64 W64 refl (λ p. refl) (λ p. refl)
    (λ p. (small_truths.less Zero p.0 p.1).0) (λ p. (small_truths.less Zero p.0 p.1).0)
    (λ p. width-built [] heads.Zext W64 0 [] (less_than Zero W64 (whole p.0) (whole p.1) ∷ [])) (λ p. width-built [] heads.Zext W64 0 [] (less_than Zero W64 (whole p.0) (whole p.1) ∷ []))
    (λ p. comparisons.sltu_64 p.0 p.1)
