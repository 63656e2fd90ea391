-- Rows of an operation on a register and a constant: sums, operators on bits, and shifts.
use Rattle.std.proofs.Common.{◌≡◌, ℕ, suc, pos, [], ◌∷◌, Some, refl, sym, subst}
use Rattle.std.specs.Prelude.{ℤ}
use Rattle.std.specs.Int.{cast_unsigned, w64}
use Rattle.bits64.specs.declared.Width.{Width}
use Rattle.bits64.specs.declared.Width.TheVariants.{W32, W64}
use Rattle.bits64.specs.declared.operator.Operator.{Operator}
use Rattle.bits64.specs.declared.operator.Operator.TheVariants as operators
use Rattle.rtx_tree.specs.declared.code.Code.{Code}
use Rattle.rtx_tree.specs.declared.code.Code.TheVariants as code
use Rattle.rtx_tree.specs.declared.code.Mode.{Mode}
use Rattle.rtx_tree.specs.declared.code.Mode.TheVariants.{Void, SI, DI}
use Rattle.rtl_step.specs.Value.{width_of}
use Rattle.term_tree.specs.declared.head.Head.{Head}
use Rattle.term_tree.specs.declared.head.Head.TheVariants as heads
use Rattle.term_tree.specs.Tree as trees
use Rattle.term_tree.specs.Tree.{Tree}
use Rattle.term_mean.specs.Sums.{constant, summed}
use Rattle.term_mean.specs.Shifts.{shifted, shifted_by}
use Rattle.term_mean.specs.Compared.{low_bits}
use Rattle.term_mean.proofs.Widths.{width-summed}
use Rattle.term_mean.proofs.NormalWidths.{width-built}
use Rattle.sym_state.specs.State.{Register}
use Rattle.sym_state.specs.Makers.{one}
use Rattle.sym_lines.specs.Compute.{computed}
use Rattle.rtx_open.proofs.Expressions.{Written, node, none, with}
use Rattle.law_plain_terms.specs.Rows.{part, whole, IsSmall, binary}
use Rattle.law_plain_terms.proofs.Back.{low_constant_32, low_constant_8}
use Rattle.law_plain_terms.proofs.Sums as sums
use Rattle.law_plain_terms.proofs.Constants as constants
use Rattle.law_plain_terms.proofs.Shifts as shifts
use Rattle.law_plain_terms.proofs.Shifts.{whole_count}
use Rattle.law_plain_terms.proofs.SmallSums as small_sums
use Rattle.law_plain_terms.proofs.SmallBits as small_bits
use Rattle.law_plain_terms.proofs.SmallShifts as small_shifts
use Rattle.law_plain_states.proofs.Effects.{register, made}
use Rattle.law_plain_states.proofs.Rows.{one_covered}
use Rattle.law_plain_states.proofs.OneLine.{Row}
use Rattle.law_plain_states.proofs.Computes.{is_set}

-- a register, by its number less 1, and a constant
abbrev pub With : Type 0
With = ℕ × ℤ

-- (const_int NUMBER)
abbrev pub number : ℤ → Written
number k = node code.ConstInt Void k [] none

abbrev pub operation_of : Code → Mode → With → Written
operation_of c m p = node c m (pos 0) [] (with (register m p.0) (with (number p.1) none))

-- the constant, as it is read
abbrev pub word : With → ℕ
word p = cast_unsigned w64 p.1

-- what the operation sets in w bits, of a constant of k
abbrev pub value : Code → Width → Width → With → Tree
value c w k p = binary c w (part w p.0) (constant k (word p))

-- what a line on v bits computes
abbrev pub line_value : Operator → Width → With → Tree
line_value op v p = computed op v (whole p.0) (constant W64 (word p))

-- ---- the rows, by what is particular to each

abbrev pub ConstantRow : Operator → Width → Code → Mode → Width → Width → Type 0
ConstantRow op v c m w k =
    Row m w (operation_of c m) (value c w k) (line_value op v) (λ p. Register (suc p.0) w ∷ []) (λ p. is_set p.0 ∷ [])

row : (op : Operator) (v : Width) (c : Code) (m : Mode) (w k : Width) → width_of m ≡ Some w →
    ((p : With) → (made (operation_of c m p) w).term ≡ value c w k p) → ((p : With) → (made (operation_of c m p) w).needs ≡ Register (suc p.0) w ∷ []) →
    ((p : With) → IsSmall (value c w k p)) → ((p : With) → IsSmall (line_value op v p)) →
    ((p : With) → trees.width_of (value c w k p) ≡ w) → ((p : With) → trees.width_of (line_value op v p) ≡ W64) → ((p : With) → low_bits w (line_value op v p) ≡ value c w k p) →
    ConstantRow op v c m w k
row op v c m w k wide term needs insn_small line_small insn_wide line_wide same = record {
  wide = wide;
  term = term;
  needs = needs;
  covered = λ p. one_covered (suc p.0) w [];
  small_needs = λ p. refl;
  small_asked = λ p. refl;
  insn_small = insn_small;
  line_small = line_small;
  insn_wide = insn_wide;
  line_wide = line_wide;
  same = same;
}

-- ---- sums

-- the terms of a line on 32 bits, which cuts the constant first
pub small_line : (t : Tree) (u : Tree) (f : Tree → Tree) → u ≡ t → IsSmall (f t) → IsSmall (f u)
small_line t u f e small = subst (λ v. IsSmall (f v)) (sym e) small

pub addi_si : ConstantRow operators.Add W32 code.Plus SI W32 W32
addi_si = row operators.Add W32 code.Plus SI W32 W32 refl (λ p. refl) (λ p. refl)
    (λ p. (small_sums.addi_32 p.0 (word p)).0) (λ p. small_line (constant W32 (word p)) (low_bits W32 (constant W64 (word p))) (λ t. one [] heads.Sext W64 (summed W32 0 ((1, part W32 p.0) ∷ (1, t) ∷ []))) (low_constant_32 (word p)) (small_sums.addi_32 p.0 (word p)).1)
    (λ p. width-summed W32 0 ((1, part W32 p.0) ∷ (1, constant W32 (word p)) ∷ [])) (λ p. width-built [] heads.Sext W64 0 [] (summed W32 0 ((1, part W32 p.0) ∷ (1, low_bits W32 (constant W64 (word p))) ∷ []) ∷ []))
    (λ p. sums.addi_32 p.0 (word p))

pub addi_di : ConstantRow operators.Add W64 code.Plus DI W64 W64
addi_di = row operators.Add W64 code.Plus DI W64 W64 refl (λ p. refl) (λ p. refl)
    (λ p. small_sums.addi_64 p.0 (word p)) (λ p. small_sums.addi_64 p.0 (word p))
    (λ p. width-summed W64 0 ((1, whole p.0) ∷ (1, constant W64 (word p)) ∷ [])) (λ p. width-summed W64 0 ((1, whole p.0) ∷ (1, constant W64 (word p)) ∷ []))
    (λ p. sums.addi_64 p.0 (word p))

-- ---- operators on bits

pub andi_si : ConstantRow operators.And W64 code.And SI W32 W32
andi_si = row operators.And W64 code.And SI W32 W32 refl (λ p. refl) (λ p. refl)
    (λ p. small_bits.andi_32 p.0 (word p)) (λ p. small_bits.andi_64 p.0 (word p))
    (λ p. width-built [] heads.And W32 0 [] (part W32 p.0 ∷ constant W32 (word p) ∷ [])) (λ p. width-built [] heads.And W64 0 [] (whole p.0 ∷ constant W64 (word p) ∷ []))
    (λ p. constants.andi_32 p.0 (word p))

pub andi_di : ConstantRow operators.And W64 code.And DI W64 W64
andi_di = row operators.And W64 code.And DI W64 W64 refl (λ p. refl) (λ p. refl)
    (λ p. small_bits.andi_64 p.0 (word p)) (λ p. small_bits.andi_64 p.0 (word p))
    (λ p. width-built [] heads.And W64 0 [] (whole p.0 ∷ constant W64 (word p) ∷ [])) (λ p. width-built [] heads.And W64 0 [] (whole p.0 ∷ constant W64 (word p) ∷ []))
    (λ p. constants.andi_64 p.0 (word p))

pub ori_si : ConstantRow operators.Ior W64 code.Ior SI W32 W32
ori_si = row operators.Ior W64 code.Ior SI W32 W32 refl (λ p. refl) (λ p. refl)
    (λ p. small_bits.ori_32 p.0 (word p)) (λ p. small_bits.ori_64 p.0 (word p))
    (λ p. width-built [] heads.Ior W32 0 [] (part W32 p.0 ∷ constant W32 (word p) ∷ [])) (λ p. width-built [] heads.Ior W64 0 [] (whole p.0 ∷ constant W64 (word p) ∷ []))
    (λ p. constants.ori_32 p.0 (word p))

pub ori_di : ConstantRow operators.Ior W64 code.Ior DI W64 W64
ori_di = row operators.Ior W64 code.Ior DI W64 W64 refl (λ p. refl) (λ p. refl)
    (λ p. small_bits.ori_64 p.0 (word p)) (λ p. small_bits.ori_64 p.0 (word p))
    (λ p. width-built [] heads.Ior W64 0 [] (whole p.0 ∷ constant W64 (word p) ∷ [])) (λ p. width-built [] heads.Ior W64 0 [] (whole p.0 ∷ constant W64 (word p) ∷ []))
    (λ p. constants.ori_64 p.0 (word p))

pub xori_si : ConstantRow operators.Xor W64 code.Xor SI W32 W32
xori_si = row operators.Xor W64 code.Xor SI W32 W32 refl (λ p. refl) (λ p. refl)
    (λ p. small_bits.xori_32 p.0 (word p)) (λ p. small_bits.xori_64 p.0 (word p))
    (λ p. width-built [] heads.Xor W32 0 [] (part W32 p.0 ∷ constant W32 (word p) ∷ [])) (λ p. width-built [] heads.Xor W64 0 [] (whole p.0 ∷ constant W64 (word p) ∷ []))
    (λ p. constants.xori_32 p.0 (word p))

pub xori_di : ConstantRow operators.Xor W64 code.Xor DI W64 W64
xori_di = row operators.Xor W64 code.Xor DI W64 W64 refl (λ p. refl) (λ p. refl)
    (λ p. small_bits.xori_64 p.0 (word p)) (λ p. small_bits.xori_64 p.0 (word p))
    (λ p. width-built [] heads.Xor W64 0 [] (whole p.0 ∷ constant W64 (word p) ∷ [])) (λ p. width-built [] heads.Xor W64 0 [] (whole p.0 ∷ constant W64 (word p) ∷ []))
    (λ p. constants.xori_64 p.0 (word p))

-- ---- shifts

-- a line on 32 bits cuts the count first
pub small_count : (h : Head) (a c : ℕ) → IsSmall (one [] heads.Sext W64 (shifted h W32 (part W32 a) (constant W64 c))) →
    IsSmall (one [] heads.Sext W64 (shifted h W32 (part W32 a) (low_bits W32 (constant W64 c))))
small_count h a c small =
    subst (λ t. IsSmall (one [] heads.Sext W64 (shifted h W32 (part W32 a) t))) (sym (low_constant_32 c))
    (subst (λ t. IsSmall (one [] heads.Sext W64 (shifted_by h W32 (part W32 a) t))) (sym (low_constant_8 c))
    (subst (λ t. IsSmall (one [] heads.Sext W64 t)) (sym (whole_count h W32 (part W32 a) c)) small))

pub slli_si : ConstantRow operators.Shl W32 code.Ashift SI W32 W64
slli_si = row operators.Shl W32 code.Ashift SI W32 W64 refl (λ p. refl) (λ p. refl)
    (λ p. (small_shifts.slli_32 p.0 (word p)).0) (λ p. small_count heads.Shl p.0 (word p) (small_shifts.slli_32 p.0 (word p)).1)
    (λ p. width-built [] heads.Shl W32 0 [] (part W32 p.0 ∷ constant W64 (word p) ∷ [])) (λ p. width-built [] heads.Sext W64 0 [] (shifted heads.Shl W32 (part W32 p.0) (low_bits W32 (constant W64 (word p))) ∷ []))
    (λ p. shifts.slli_32 p.0 (word p))

pub slli_di : ConstantRow operators.Shl W64 code.Ashift DI W64 W64
slli_di = row operators.Shl W64 code.Ashift DI W64 W64 refl (λ p. refl) (λ p. refl)
    (λ p. small_shifts.slli_64 p.0 (word p)) (λ p. small_shifts.slli_64 p.0 (word p))
    (λ p. width-built [] heads.Shl W64 0 [] (whole p.0 ∷ constant W64 (word p) ∷ [])) (λ p. width-built [] heads.Shl W64 0 [] (whole p.0 ∷ constant W64 (word p) ∷ []))
    (λ p. shifts.slli_64 p.0 (word p))

pub srli_si : ConstantRow operators.Shr W32 code.Lshiftrt SI W32 W64
srli_si = row operators.Shr W32 code.Lshiftrt SI W32 W64 refl (λ p. refl) (λ p. refl)
    (λ p. (small_shifts.srli_32 p.0 (word p)).0) (λ p. small_count heads.Shr p.0 (word p) (small_shifts.srli_32 p.0 (word p)).1)
    (λ p. width-built [] heads.Shr W32 0 [] (part W32 p.0 ∷ constant W64 (word p) ∷ [])) (λ p. width-built [] heads.Sext W64 0 [] (shifted heads.Shr W32 (part W32 p.0) (low_bits W32 (constant W64 (word p))) ∷ []))
    (λ p. shifts.srli_32 p.0 (word p))

pub srli_di : ConstantRow operators.Shr W64 code.Lshiftrt DI W64 W64
srli_di = row operators.Shr W64 code.Lshiftrt DI W64 W64 refl (λ p. refl) (λ p. refl)
    (λ p. small_shifts.srli_64 p.0 (word p)) (λ p. small_shifts.srli_64 p.0 (word p))
    (λ p. width-built [] heads.Shr W64 0 [] (whole p.0 ∷ constant W64 (word p) ∷ [])) (λ p. width-built [] heads.Shr W64 0 [] (whole p.0 ∷ constant W64 (word p) ∷ []))
    (λ p. shifts.srli_64 p.0 (word p))

pub srai_si : ConstantRow operators.Sar W32 code.Ashiftrt SI W32 W64
srai_si = row operators.Sar W32 code.Ashiftrt SI W32 W64 refl (λ p. refl) (λ p. refl)
    (λ p. (small_shifts.srai_32 p.0 (word p)).0) (λ p. small_count heads.Sar p.0 (word p) (small_shifts.srai_32 p.0 (word p)).1)
    (λ p. width-built [] heads.Sar W32 0 [] (part W32 p.0 ∷ constant W64 (word p) ∷ [])) (λ p. width-built [] heads.Sext W64 0 [] (shifted heads.Sar W32 (part W32 p.0) (low_bits W32 (constant W64 (word p))) ∷ []))
    (λ p. shifts.srai_32 p.0 (word p))

pub srai_di : ConstantRow operators.Sar W64 code.Ashiftrt DI W64 W64
srai_di = row operators.Sar W64 code.Ashiftrt DI W64 W64 refl (λ p. refl) (λ p. refl)
    (λ p. small_shifts.srai_64 p.0 (word p)) (λ p. small_shifts.srai_64 p.0 (word p))
    (λ p. width-built [] heads.Sar W64 0 [] (whole p.0 ∷ constant W64 (word p) ∷ [])) (λ p. width-built [] heads.Sar W64 0 [] (whole p.0 ∷ constant W64 (word p) ∷ []))
    (λ p. shifts.srai_64 p.0 (word p))
