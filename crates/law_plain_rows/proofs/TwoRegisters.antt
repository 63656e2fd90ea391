-- Rows of an operation on two registers: sums, differences, products, quotients, remainders, operators
-- on bits, and shifts by a register.
use Rattle.std.proofs.Common.{◌≡◌, ℕ, suc, pos, List, [], ◌∷◌, Some, refl}
use Rattle.bits64.specs.declared.Width.{Width}
use Rattle.bits64.specs.declared.Width.TheVariants.{W8, W32, W64}
use Rattle.bits64.specs.declared.operator.Operator.{Operator}
use Rattle.bits64.specs.declared.operator.Operator.TheVariants as operators
use Rattle.bits64.specs.declared.operator.Opaque.TheVariants as opaque
use Rattle.rtx_tree.specs.declared.code.Code.{Code}
use Rattle.rtx_tree.specs.declared.code.Code.TheVariants as code
use Rattle.rtx_tree.specs.declared.code.Mode.{Mode}
use Rattle.rtx_tree.specs.declared.code.Mode.TheVariants.{QI, SI, DI}
use Rattle.rtl_step.specs.Value.{width_of}
use Rattle.term_tree.specs.declared.head.Head.TheVariants as heads
use Rattle.term_tree.specs.Tree as trees
use Rattle.term_tree.specs.Tree.{Tree}
use Rattle.term_mean.specs.Sums.{summed}
use Rattle.term_mean.specs.Masks.{cut_8, cut_32}
use Rattle.term_mean.specs.Compared.{low_bits}
use Rattle.term_mean.proofs.Widths.{width-summed}
use Rattle.term_mean.proofs.NormalWidths.{width-built}
use Rattle.sym_state.specs.State.{Need, Register}
use Rattle.sym_state.specs.Makers.{minus_one, two}
use Rattle.sym_lines.specs.Compute.{computed}
use Rattle.rtx_open.proofs.Expressions.{Written, node, none, with}
use Rattle.law_plain_terms.specs.Rows.{part, whole, IsSmall, binary, operand_needs}
use Rattle.law_plain_terms.proofs.Sums as sums
use Rattle.law_plain_terms.proofs.Products as products
use Rattle.law_plain_terms.proofs.Logic as logic
use Rattle.law_plain_terms.proofs.Shifts as shifts
use Rattle.law_plain_terms.proofs.SmallSums as small_sums
use Rattle.law_plain_terms.proofs.SmallBits as small_bits
use Rattle.law_plain_states.proofs.Effects.{register, made}
use Rattle.law_plain_states.proofs.Rows.{two_covered}
use Rattle.law_plain_states.proofs.OneLine.{AreSmallNeeds, Row}
use Rattle.law_plain_states.proofs.Computes.{is_set}

-- two registers, by their numbers less 1
abbrev pub Two : Type 0
Two = ℕ × ℕ

-- an operation on them, of which the second has a mode of its own
abbrev pub operation_of : Code → Mode → Mode → Two → Written
operation_of c m o p = node c m (pos 0) [] (with (register m p.0) (with (register o p.1) none))

-- what it sets and needs, in w bits, with o bits of the second
abbrev pub value : Code → Width → Width → Two → Tree
value c w o p = binary c w (part w p.0) (part o p.1)

abbrev pub bits : Width → Width → Two → List Need → List Need
bits w o p more = Register (suc p.0) w ∷ Register (suc p.1) o ∷ more

-- what a line on v bits computes
abbrev pub line_value : Operator → Width → Two → Tree
line_value op v p = computed op v (whole p.0) (whole p.1)

-- ---- the rows, by what is particular to each

abbrev pub OperationRow : Operator → Width → Code → Mode → Width → Mode → Width → Type 0
OperationRow op v c m w o k =
    Row m w (operation_of c m o) (value c w k) (line_value op v) (λ p. bits w k p (operand_needs c (part k p.1))) (λ p. is_set p.0 ∷ is_set p.1 ∷ [])

row : (op : Operator) (v : Width) (c : Code) (m : Mode) (w : Width) (o : Mode) (k : Width) → width_of m ≡ Some w →
    ((p : Two) → (made (operation_of c m o p) w).term ≡ value c w k p) → ((p : Two) → (made (operation_of c m o p) w).needs ≡ bits w k p (operand_needs c (part k p.1))) →
    ((p : Two) → AreSmallNeeds (bits w k p (operand_needs c (part k p.1)))) → ((p : Two) → IsSmall (value c w k p)) → ((p : Two) → IsSmall (line_value op v p)) →
    ((p : Two) → trees.width_of (value c w k p) ≡ w) → ((p : Two) → trees.width_of (line_value op v p) ≡ W64) → ((p : Two) → low_bits w (line_value op v p) ≡ value c w k p) →
    OperationRow op v c m w o k
row op v c m w o k wide term needs small_needs insn_small line_small insn_wide line_wide same = record {
  wide = wide;
  term = term;
  needs = needs;
  covered = λ p. two_covered (suc p.0) (suc p.1) w k (operand_needs c (part k p.1));
  small_needs = small_needs;
  small_asked = λ p. refl;
  insn_small = insn_small;
  line_small = line_small;
  insn_wide = insn_wide;
  line_wide = line_wide;
  same = same;
}

-- ---- sums and differences

pub add_si : OperationRow operators.Add W32 code.Plus SI W32 SI W32
add_si = row operators.Add W32 code.Plus SI W32 SI W32 refl (λ p. refl) (λ p. refl) (λ p. refl)
    (λ p. (small_sums.add_32 p.0 p.1).0) (λ p. (small_sums.add_32 p.0 p.1).1)
    (λ p. width-summed W32 0 ((1, part W32 p.0) ∷ (1, part W32 p.1) ∷ [])) (λ p. width-built [] heads.Sext W64 0 [] (summed W32 0 ((1, part W32 p.0) ∷ (1, part W32 p.1) ∷ []) ∷ []))
    (λ p. sums.add_32 p.0 p.1)

pub add_di : OperationRow operators.Add W64 code.Plus DI W64 DI W64
add_di = row operators.Add W64 code.Plus DI W64 DI W64 refl (λ p. refl) (λ p. refl) (λ p. refl)
    (λ p. small_sums.add_64 p.0 p.1) (λ p. small_sums.add_64 p.0 p.1)
    (λ p. width-summed W64 0 ((1, whole p.0) ∷ (1, whole p.1) ∷ [])) (λ p. width-summed W64 0 ((1, whole p.0) ∷ (1, whole p.1) ∷ []))
    (λ p. sums.add_64 p.0 p.1)

pub sub_si : OperationRow operators.Sub W32 code.Minus SI W32 SI W32
sub_si = row operators.Sub W32 code.Minus SI W32 SI W32 refl (λ p. refl) (λ p. refl) (λ p. refl)
    (λ p. (small_sums.sub_32 p.0 p.1).0) (λ p. (small_sums.sub_32 p.0 p.1).1)
    (λ p. width-summed W32 0 ((1, part W32 p.0) ∷ (minus_one W32, part W32 p.1) ∷ [])) (λ p. width-built [] heads.Sext W64 0 [] (summed W32 0 ((1, part W32 p.0) ∷ (minus_one W32, part W32 p.1) ∷ []) ∷ []))
    (λ p. sums.sub_32 p.0 p.1)

pub sub_di : OperationRow operators.Sub W64 code.Minus DI W64 DI W64
sub_di = row operators.Sub W64 code.Minus DI W64 DI W64 refl (λ p. refl) (λ p. refl) (λ p. refl)
    (λ p. small_sums.sub_64 p.0 p.1) (λ p. small_sums.sub_64 p.0 p.1)
    (λ p. width-summed W64 0 ((1, whole p.0) ∷ (minus_one W64, whole p.1) ∷ [])) (λ p. width-summed W64 0 ((1, whole p.0) ∷ (minus_one W64, whole p.1) ∷ []))
    (λ p. sums.sub_64 p.0 p.1)

-- ---- products, quotients and remainders

pub mul_si : OperationRow operators.Mul W32 code.Mult SI W32 SI W32
mul_si = row operators.Mul W32 code.Mult SI W32 SI W32 refl (λ p. refl) (λ p. refl) (λ p. refl)
    (λ p. (small_sums.mul_32 p.0 p.1).0) (λ p. (small_sums.mul_32 p.0 p.1).1)
    (λ p. width-built [] heads.Mul W32 0 [] (part W32 p.0 ∷ part W32 p.1 ∷ [])) (λ p. width-built [] heads.Sext W64 0 [] (two [] heads.Mul W32 (part W32 p.0) (part W32 p.1) ∷ []))
    (λ p. products.mul_32 p.0 p.1)

pub mul_di : OperationRow operators.Mul W64 code.Mult DI W64 DI W64
mul_di = row operators.Mul W64 code.Mult DI W64 DI W64 refl (λ p. refl) (λ p. refl) (λ p. refl)
    (λ p. small_sums.mul_64 p.0 p.1) (λ p. small_sums.mul_64 p.0 p.1)
    (λ p. width-built [] heads.Mul W64 0 [] (whole p.0 ∷ whole p.1 ∷ [])) (λ p. width-built [] heads.Mul W64 0 [] (whole p.0 ∷ whole p.1 ∷ []))
    (λ p. products.mul_64 p.0 p.1)

pub div_si : OperationRow (operators.Opaque opaque.Div) W32 code.Div SI W32 SI W32
unfolding cut_32
div_si = row (operators.Opaque opaque.Div) W32 code.Div SI W32 SI W32 refl (λ p. refl) (λ p. refl) (λ p. refl)
    (λ p. refl) (λ p. refl)
    (λ p. refl) (λ p. refl)
    (λ p. products.div_32 p.0 p.1)

pub div_di : OperationRow (operators.Opaque opaque.Div) W64 code.Div DI W64 DI W64
div_di = row (operators.Opaque opaque.Div) W64 code.Div DI W64 DI W64 refl (λ p. refl) (λ p. refl) (λ p. refl)
    (λ p. refl) (λ p. refl)
    (λ p. refl) (λ p. refl)
    (λ p. products.div_64 p.0 p.1)

pub divu_si : OperationRow (operators.Opaque opaque.Udiv) W32 code.Udiv SI W32 SI W32
unfolding cut_32
divu_si = row (operators.Opaque opaque.Udiv) W32 code.Udiv SI W32 SI W32 refl (λ p. refl) (λ p. refl) (λ p. refl)
    (λ p. refl) (λ p. refl)
    (λ p. refl) (λ p. refl)
    (λ p. products.divu_32 p.0 p.1)

pub divu_di : OperationRow (operators.Opaque opaque.Udiv) W64 code.Udiv DI W64 DI W64
divu_di = row (operators.Opaque opaque.Udiv) W64 code.Udiv DI W64 DI W64 refl (λ p. refl) (λ p. refl) (λ p. refl)
    (λ p. refl) (λ p. refl)
    (λ p. refl) (λ p. refl)
    (λ p. products.divu_64 p.0 p.1)

pub rem_si : OperationRow (operators.Opaque opaque.Rem) W32 code.Mod SI W32 SI W32
unfolding cut_32
rem_si = row (operators.Opaque opaque.Rem) W32 code.Mod SI W32 SI W32 refl (λ p. refl) (λ p. refl) (λ p. refl)
    (λ p. refl) (λ p. refl)
    (λ p. refl) (λ p. refl)
    (λ p. products.rem_32 p.0 p.1)

pub rem_di : OperationRow (operators.Opaque opaque.Rem) W64 code.Mod DI W64 DI W64
rem_di = row (operators.Opaque opaque.Rem) W64 code.Mod DI W64 DI W64 refl (λ p. refl) (λ p. refl) (λ p. refl)
    (λ p. refl) (λ p. refl)
    (λ p. refl) (λ p. refl)
    (λ p. products.rem_64 p.0 p.1)

pub remu_si : OperationRow (operators.Opaque opaque.Urem) W32 code.Umod SI W32 SI W32
unfolding cut_32
remu_si = row (operators.Opaque opaque.Urem) W32 code.Umod SI W32 SI W32 refl (λ p. refl) (λ p. refl) (λ p. refl)
    (λ p. refl) (λ p. refl)
    (λ p. refl) (λ p. refl)
    (λ p. products.remu_32 p.0 p.1)

pub remu_di : OperationRow (operators.Opaque opaque.Urem) W64 code.Umod DI W64 DI W64
remu_di = row (operators.Opaque opaque.Urem) W64 code.Umod DI W64 DI W64 refl (λ p. refl) (λ p. refl) (λ p. refl)
    (λ p. refl) (λ p. refl)
    (λ p. refl) (λ p. refl)
    (λ p. products.remu_64 p.0 p.1)

-- ---- operators on bits: a line has 64 bits, also where the instruction has 32

pub and_si : OperationRow operators.And W64 code.And SI W32 SI W32
and_si = row operators.And W64 code.And SI W32 SI W32 refl (λ p. refl) (λ p. refl) (λ p. refl)
    (λ p. small_bits.and_32 p.0 p.1) (λ p. small_bits.and_64 p.0 p.1)
    (λ p. width-built [] heads.And W32 0 [] (part W32 p.0 ∷ part W32 p.1 ∷ [])) (λ p. width-built [] heads.And W64 0 [] (whole p.0 ∷ whole p.1 ∷ []))
    (λ p. logic.and_32 p.0 p.1)

pub and_di : OperationRow operators.And W64 code.And DI W64 DI W64
and_di = row operators.And W64 code.And DI W64 DI W64 refl (λ p. refl) (λ p. refl) (λ p. refl)
    (λ p. small_bits.and_64 p.0 p.1) (λ p. small_bits.and_64 p.0 p.1)
    (λ p. width-built [] heads.And W64 0 [] (whole p.0 ∷ whole p.1 ∷ [])) (λ p. width-built [] heads.And W64 0 [] (whole p.0 ∷ whole p.1 ∷ []))
    (λ p. logic.and_64 p.0 p.1)

pub or_si : OperationRow operators.Ior W64 code.Ior SI W32 SI W32
or_si = row operators.Ior W64 code.Ior SI W32 SI W32 refl (λ p. refl) (λ p. refl) (λ p. refl)
    (λ p. small_bits.or_32 p.0 p.1) (λ p. small_bits.or_64 p.0 p.1)
    (λ p. width-built [] heads.Ior W32 0 [] (part W32 p.0 ∷ part W32 p.1 ∷ [])) (λ p. width-built [] heads.Ior W64 0 [] (whole p.0 ∷ whole p.1 ∷ []))
    (λ p. logic.or_32 p.0 p.1)

pub or_di : OperationRow operators.Ior W64 code.Ior DI W64 DI W64
or_di = row operators.Ior W64 code.Ior DI W64 DI W64 refl (λ p. refl) (λ p. refl) (λ p. refl)
    (λ p. small_bits.or_64 p.0 p.1) (λ p. small_bits.or_64 p.0 p.1)
    (λ p. width-built [] heads.Ior W64 0 [] (whole p.0 ∷ whole p.1 ∷ [])) (λ p. width-built [] heads.Ior W64 0 [] (whole p.0 ∷ whole p.1 ∷ []))
    (λ p. logic.or_64 p.0 p.1)

pub xor_si : OperationRow operators.Xor W64 code.Xor SI W32 SI W32
xor_si = row operators.Xor W64 code.Xor SI W32 SI W32 refl (λ p. refl) (λ p. refl) (λ p. refl)
    (λ p. small_bits.xor_32 p.0 p.1) (λ p. small_bits.xor_64 p.0 p.1)
    (λ p. width-built [] heads.Xor W32 0 [] (part W32 p.0 ∷ part W32 p.1 ∷ [])) (λ p. width-built [] heads.Xor W64 0 [] (whole p.0 ∷ whole p.1 ∷ []))
    (λ p. logic.xor_32 p.0 p.1)

pub xor_di : OperationRow operators.Xor W64 code.Xor DI W64 DI W64
xor_di = row operators.Xor W64 code.Xor DI W64 DI W64 refl (λ p. refl) (λ p. refl) (λ p. refl)
    (λ p. small_bits.xor_64 p.0 p.1) (λ p. small_bits.xor_64 p.0 p.1)
    (λ p. width-built [] heads.Xor W64 0 [] (whole p.0 ∷ whole p.1 ∷ [])) (λ p. width-built [] heads.Xor W64 0 [] (whole p.0 ∷ whole p.1 ∷ []))
    (λ p. logic.xor_64 p.0 p.1)

-- ---- shifts, by the low 8 bits of a register

pub sll_si : OperationRow operators.Shl W32 code.Ashift SI W32 QI W8
unfolding cut_8 cut_32
sll_si = row operators.Shl W32 code.Ashift SI W32 QI W8 refl (λ p. refl) (λ p. refl) (λ p. refl)
    (λ p. refl) (λ p. refl)
    (λ p. refl) (λ p. refl)
    (λ p. shifts.sll_32 p.0 p.1)

pub sll_di : OperationRow operators.Shl W64 code.Ashift DI W64 QI W8
unfolding cut_8
sll_di = row operators.Shl W64 code.Ashift DI W64 QI W8 refl (λ p. refl) (λ p. refl) (λ p. refl)
    (λ p. refl) (λ p. refl)
    (λ p. refl) (λ p. refl)
    (λ p. shifts.sll_64 p.0 p.1)

pub srl_si : OperationRow operators.Shr W32 code.Lshiftrt SI W32 QI W8
unfolding cut_8 cut_32
srl_si = row operators.Shr W32 code.Lshiftrt SI W32 QI W8 refl (λ p. refl) (λ p. refl) (λ p. refl)
    (λ p. refl) (λ p. refl)
    (λ p. refl) (λ p. refl)
    (λ p. shifts.srl_32 p.0 p.1)

pub srl_di : OperationRow operators.Shr W64 code.Lshiftrt DI W64 QI W8
unfolding cut_8
srl_di = row operators.Shr W64 code.Lshiftrt DI W64 QI W8 refl (λ p. refl) (λ p. refl) (λ p. refl)
    (λ p. refl) (λ p. refl)
    (λ p. refl) (λ p. refl)
    (λ p. shifts.srl_64 p.0 p.1)

pub sra_si : OperationRow operators.Sar W32 code.Ashiftrt SI W32 QI W8
unfolding cut_8 cut_32
sra_si = row operators.Sar W32 code.Ashiftrt SI W32 QI W8 refl (λ p. refl) (λ p. refl) (λ p. refl)
    (λ p. refl) (λ p. refl)
    (λ p. refl) (λ p. refl)
    (λ p. shifts.sra_32 p.0 p.1)

pub sra_di : OperationRow operators.Sar W64 code.Ashiftrt DI W64 QI W8
unfolding cut_8
sra_di = row operators.Sar W64 code.Ashiftrt DI W64 QI W8 refl (λ p. refl) (λ p. refl) (λ p. refl)
    (λ p. refl) (λ p. refl)
    (λ p. refl) (λ p. refl)
    (λ p. shifts.sra_64 p.0 p.1)
