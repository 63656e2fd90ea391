-- Rows of two registers whose text has two lines: not less, and equality; and the greater of two, whose
-- line has the registers the other way round.
use Rattle.std.proofs.Common.{◌≡◌, ℕ, suc, pos, [], ◌∷◌, Some, refl, sym, subst, ◌∙◌}
use Rattle.bits64.specs.declared.Width.{Width}
use Rattle.bits64.specs.declared.Width.TheVariants.{W32, W64}
use Rattle.bits64.specs.declared.operator.Operator.TheVariants as operators
use Rattle.bits64.specs.declared.operator.Relation.TheVariants as relation
use Rattle.rtx_tree.specs.declared.code.Code.{Code}
use Rattle.rtx_tree.specs.declared.code.Code.TheVariants as code
use Rattle.rtx_tree.specs.declared.code.Mode.{Mode}
use Rattle.rtx_tree.specs.declared.code.Mode.TheVariants.{SI, DI}
use Rattle.rtl_step.specs.Value.{width_of}
use Rattle.term_tree.specs.declared.head.Head.TheVariants as heads
use Rattle.term_tree.specs.declared.head.Extension.{Extension}
use Rattle.term_tree.specs.declared.head.Extension.TheVariants.{Zero, Sign}
use Rattle.term_tree.specs.Tree as trees
use Rattle.term_tree.specs.Tree.{Tree}
use Rattle.term_mean.specs.Sums.{constant, summed}
use Rattle.term_mean.specs.Less.{less_than}
use Rattle.term_mean.specs.Zero.{equals_zero}
use Rattle.term_mean.specs.Truths.{opposite}
use Rattle.term_mean.specs.Compared.{low_bits}
use Rattle.term_mean.proofs.Widths.{width-summed}
use Rattle.term_mean.proofs.NormalWidths.{width-built}
use Rattle.sym_state.specs.State.{Register}
use Rattle.sym_state.specs.Makers.{one, minus_one}
use Rattle.sym_lines.specs.Compute.{computed}
use Rattle.rtx_open.proofs.Expressions.{Written, node, none, with}
use Rattle.law_plain_terms.specs.Rows.{whole, truth, reversed, line, IsSmall}
use Rattle.law_plain_terms.proofs.Back.{low_same}
use Rattle.law_plain_terms.proofs.Comparisons as comparisons
use Rattle.law_plain_terms.proofs.Equal as equal
use Rattle.law_plain_terms.proofs.SmallSums as small_sums
use Rattle.law_plain_terms.proofs.SmallTruths as small_truths
use Rattle.law_plain_states.proofs.Effects.{register, made}
use Rattle.law_plain_states.proofs.Rows.{two_covered, turned_covered}
use Rattle.law_plain_states.proofs.OneLine.{Row}
use Rattle.law_plain_states.proofs.Computes.{is_set}
use Rattle.law_plain_rows.proofs.TwoRegisters.{Two, bits}
use Rattle.law_plain_rows.proofs.Values.{compared}

-- ---- the rows, by what is particular to each: the line that is first reads the registers in the
-- order of the instruction

abbrev pub PairRow : Mode → Width → (Two → Written) → (Two → Tree) → (Two → Tree) → Type 0
PairRow m w x t u = Row m w x t u (λ p. bits W64 W64 p []) (λ p. is_set p.0 ∷ is_set p.1 ∷ [])

row : (m : Mode) (w : Width) (x : Two → Written) (t u : Two → Tree) → width_of m ≡ Some w →
    ((p : Two) → (made (x p) w).term ≡ t p) → ((p : Two) → (made (x p) w).needs ≡ bits W64 W64 p []) →
    ((p : Two) → IsSmall (t p)) → ((p : Two) → IsSmall (u p)) → ((p : Two) → trees.width_of (t p) ≡ w) → ((p : Two) → trees.width_of (u p) ≡ W64) → ((p : Two) → low_bits w (u p) ≡ t p) → PairRow m w x t u
row m w x t u wide term needs insn_small line_small insn_wide line_wide same = record {
  wide = wide;
  term = term;
  needs = needs;
  covered = λ p. two_covered (suc p.0) (suc p.1) W64 W64 [];
  small_needs = λ p. refl;
  small_asked = λ p. refl;
  insn_small = insn_small;
  line_small = line_small;
  insn_wide = insn_wide;
  line_wide = line_wide;
  same = same;
}

-- ---- not less: the exclusive or of the truth with 1

pub wide_reversed : (t : Tree) → trees.width_of (reversed t) ≡ W64
wide_reversed t = width-built [] heads.Xor W64 0 [] (low_bits W64 t ∷ constant W64 1 ∷ [])

pub low_reversed : (t : Tree) → low_bits W64 (reversed t) ≡ reversed t
low_reversed t = low_same W64 (reversed t) (wide_reversed t)

reversed_is : (e : Extension) (a b : ℕ) → reversed (one [] heads.Zext W64 (less_than e W64 (whole a) (whole b))) ≡ one [] heads.Zext W64 (opposite (less_than e W64 (whole a) (whole b)))
reversed_is Sign a b = sym (low_reversed (one [] heads.Zext W64 (less_than Sign W64 (whole a) (whole b)))) ∙ comparisons.sge_64 a b
reversed_is Zero a b = sym (low_reversed (one [] heads.Zext W64 (less_than Zero W64 (whole a) (whole b)))) ∙ comparisons.sgeu_64 a b

pub sge_si : PairRow SI W32 (compared code.Ge SI) (λ p. truth code.Ge W32 (whole p.0) (whole p.1)) (λ p. reversed (line (operators.Test relation.Lt) (whole p.0) (whole p.1)))
sge_si = row SI W32 (compared code.Ge SI) (λ p. truth code.Ge W32 (whole p.0) (whole p.1)) (λ p. reversed (line (operators.Test relation.Lt) (whole p.0) (whole p.1))) refl (λ p. refl) (λ p. refl)
    (λ p. (small_truths.not_less Sign p.0 p.1).1) (λ p. subst IsSmall (sym (reversed_is Sign p.0 p.1)) (small_truths.not_less Sign p.0 p.1).0)
    (λ p. width-built [] heads.Zext W32 0 [] (opposite (less_than Sign W64 (whole p.0) (whole p.1)) ∷ [])) (λ p. wide_reversed (line (operators.Test relation.Lt) (whole p.0) (whole p.1)))
    (λ p. comparisons.sge_32 p.0 p.1)

pub sge_di : PairRow DI W64 (compared code.Ge DI) (λ p. truth code.Ge W64 (whole p.0) (whole p.1)) (λ p. reversed (line (operators.Test relation.Lt) (whole p.0) (whole p.1)))
sge_di = row DI W64 (compared code.Ge DI) (λ p. truth code.Ge W64 (whole p.0) (whole p.1)) (λ p. reversed (line (operators.Test relation.Lt) (whole p.0) (whole p.1))) refl (λ p. refl) (λ p. refl)
    (λ p. (small_truths.not_less Sign p.0 p.1).0) (λ p. subst IsSmall (sym (reversed_is Sign p.0 p.1)) (small_truths.not_less Sign p.0 p.1).0)
    (λ p. width-built [] heads.Zext W64 0 [] (opposite (less_than Sign W64 (whole p.0) (whole p.1)) ∷ [])) (λ p. wide_reversed (line (operators.Test relation.Lt) (whole p.0) (whole p.1)))
    (λ p. comparisons.sge_64 p.0 p.1)

pub sgeu_si : PairRow SI W32 (compared code.Geu SI) (λ p. truth code.Geu W32 (whole p.0) (whole p.1)) (λ p. reversed (line (operators.Test relation.Ltu) (whole p.0) (whole p.1)))
sgeu_si = row SI W32 (compared code.Geu SI) (λ p. truth code.Geu W32 (whole p.0) (whole p.1)) (λ p. reversed (line (operators.Test relation.Ltu) (whole p.0) (whole p.1))) refl (λ p. refl) (λ p. refl)
    (λ p. (small_truths.not_less Zero p.0 p.1).1) (λ p. subst IsSmall (sym (reversed_is Zero p.0 p.1)) (small_truths.not_less Zero p.0 p.1).0)
    (λ p. width-built [] heads.Zext W32 0 [] (opposite (less_than Zero W64 (whole p.0) (whole p.1)) ∷ [])) (λ p. wide_reversed (line (operators.Test relation.Ltu) (whole p.0) (whole p.1)))
    (λ p. comparisons.sgeu_32 p.0 p.1)

pub sgeu_di : PairRow DI W64 (compared code.Geu DI) (λ p. truth code.Geu W64 (whole p.0) (whole p.1)) (λ p. reversed (line (operators.Test relation.Ltu) (whole p.0) (whole p.1)))
sgeu_di = row DI W64 (compared code.Geu DI) (λ p. truth code.Geu W64 (whole p.0) (whole p.1)) (λ p. reversed (line (operators.Test relation.Ltu) (whole p.0) (whole p.1))) refl (λ p. refl) (λ p. refl)
    (λ p. (small_truths.not_less Zero p.0 p.1).0) (λ p. subst IsSmall (sym (reversed_is Zero p.0 p.1)) (small_truths.not_less Zero p.0 p.1).0)
    (λ p. width-built [] heads.Zext W64 0 [] (opposite (less_than Zero W64 (whole p.0) (whole p.1)) ∷ [])) (λ p. wide_reversed (line (operators.Test relation.Ltu) (whole p.0) (whole p.1)))
    (λ p. comparisons.sgeu_64 p.0 p.1)

-- what the first line leaves
pub first_less : (e : Extension) (a b : ℕ) → IsSmall (one [] heads.Zext W64 (less_than e W64 (whole a) (whole b)))
first_less e a b = (small_truths.less e a b).0

-- ---- equality: the difference, and whether it is 0

abbrev pub less_one : Two → Tree
less_one p = computed (operators.Test relation.Ltu) W64 (line operators.Sub (whole p.0) (whole p.1)) (constant W64 1)

abbrev pub above_nought : Two → Tree
above_nought p = computed (operators.Test relation.Ltu) W64 (constant W64 0) (line operators.Sub (whole p.0) (whole p.1))

-- a comparison of a line has 64 bits
wide_truth : (t : Tree) → trees.width_of (one [] heads.Zext W64 t) ≡ W64
wide_truth t = width-built [] heads.Zext W64 0 [] (t ∷ [])

truth_is : (t u : Tree) → low_bits W64 (one [] heads.Zext W64 t) ≡ u → one [] heads.Zext W64 t ≡ u
truth_is t u e = sym (low_same W64 (one [] heads.Zext W64 t) (wide_truth t)) ∙ e

-- what the first line leaves
pub first_difference : (a b : ℕ) → IsSmall (line operators.Sub (whole a) (whole b))
first_difference a b = small_sums.sub_64 a b

pub wide_difference : (a b : ℕ) → trees.width_of (line operators.Sub (whole a) (whole b)) ≡ W64
wide_difference a b = width-summed W64 0 ((1, whole a) ∷ (minus_one W64, whole b) ∷ [])

pub seq_si : PairRow SI W32 (compared code.Eq SI) (λ p. truth code.Eq W32 (whole p.0) (whole p.1)) less_one
seq_si = row SI W32 (compared code.Eq SI) (λ p. truth code.Eq W32 (whole p.0) (whole p.1)) less_one refl (λ p. refl) (λ p. refl)
    (λ p. (small_truths.equal p.0 p.1).1) (λ p. subst IsSmall (sym (truth_is (less_than Zero W64 (low_bits W64 (line operators.Sub (whole p.0) (whole p.1))) (constant W64 1)) (truth code.Eq W64 (whole p.0) (whole p.1)) (equal.seq_64 p.0 p.1))) (small_truths.equal p.0 p.1).0)
    (λ p. width-built [] heads.Zext W32 0 [] ((equals_zero W64 (summed W64 0 ((1, whole p.0) ∷ (minus_one W64, whole p.1) ∷ []))) ∷ [])) (λ p. wide_truth (less_than Zero W64 (low_bits W64 (line operators.Sub (whole p.0) (whole p.1))) (constant W64 1)))
    (λ p. equal.seq_32 p.0 p.1)

pub seq_di : PairRow DI W64 (compared code.Eq DI) (λ p. truth code.Eq W64 (whole p.0) (whole p.1)) less_one
seq_di = row DI W64 (compared code.Eq DI) (λ p. truth code.Eq W64 (whole p.0) (whole p.1)) less_one refl (λ p. refl) (λ p. refl)
    (λ p. (small_truths.equal p.0 p.1).0) (λ p. subst IsSmall (sym (truth_is (less_than Zero W64 (low_bits W64 (line operators.Sub (whole p.0) (whole p.1))) (constant W64 1)) (truth code.Eq W64 (whole p.0) (whole p.1)) (equal.seq_64 p.0 p.1))) (small_truths.equal p.0 p.1).0)
    (λ p. width-built [] heads.Zext W64 0 [] ((equals_zero W64 (summed W64 0 ((1, whole p.0) ∷ (minus_one W64, whole p.1) ∷ []))) ∷ [])) (λ p. wide_truth (less_than Zero W64 (low_bits W64 (line operators.Sub (whole p.0) (whole p.1))) (constant W64 1)))
    (λ p. equal.seq_64 p.0 p.1)

pub sne_si : PairRow SI W32 (compared code.Ne SI) (λ p. truth code.Ne W32 (whole p.0) (whole p.1)) above_nought
sne_si = row SI W32 (compared code.Ne SI) (λ p. truth code.Ne W32 (whole p.0) (whole p.1)) above_nought refl (λ p. refl) (λ p. refl)
    (λ p. (small_truths.not_equal p.0 p.1).1) (λ p. subst IsSmall (sym (truth_is (less_than Zero W64 (constant W64 0) (low_bits W64 (line operators.Sub (whole p.0) (whole p.1)))) (truth code.Ne W64 (whole p.0) (whole p.1)) (equal.sne_64 p.0 p.1))) (small_truths.not_equal p.0 p.1).0)
    (λ p. width-built [] heads.Zext W32 0 [] (opposite (equals_zero W64 (summed W64 0 ((1, whole p.0) ∷ (minus_one W64, whole p.1) ∷ []))) ∷ [])) (λ p. wide_truth (less_than Zero W64 (constant W64 0) (low_bits W64 (line operators.Sub (whole p.0) (whole p.1)))))
    (λ p. equal.sne_32 p.0 p.1)

pub sne_di : PairRow DI W64 (compared code.Ne DI) (λ p. truth code.Ne W64 (whole p.0) (whole p.1)) above_nought
sne_di = row DI W64 (compared code.Ne DI) (λ p. truth code.Ne W64 (whole p.0) (whole p.1)) above_nought refl (λ p. refl) (λ p. refl)
    (λ p. (small_truths.not_equal p.0 p.1).0) (λ p. subst IsSmall (sym (truth_is (less_than Zero W64 (constant W64 0) (low_bits W64 (line operators.Sub (whole p.0) (whole p.1)))) (truth code.Ne W64 (whole p.0) (whole p.1)) (equal.sne_64 p.0 p.1))) (small_truths.not_equal p.0 p.1).0)
    (λ p. width-built [] heads.Zext W64 0 [] (opposite (equals_zero W64 (summed W64 0 ((1, whole p.0) ∷ (minus_one W64, whole p.1) ∷ []))) ∷ [])) (λ p. wide_truth (less_than Zero W64 (constant W64 0) (low_bits W64 (line operators.Sub (whole p.0) (whole p.1)))))
    (λ p. equal.sne_64 p.0 p.1)

-- ---- the greater of two: the line has the registers the other way round

abbrev pub turned : Code → Mode → Two → Written
turned c m p = node c m (pos 0) [] (with (register DI p.1) (with (register DI p.0) none))

abbrev pub TurnedRow : Mode → Width → (Two → Written) → (Two → Tree) → (Two → Tree) → Type 0
TurnedRow m w x t u = Row m w x t u (λ p. Register (suc p.1) W64 ∷ Register (suc p.0) W64 ∷ []) (λ p. is_set p.0 ∷ is_set p.1 ∷ [])

turned_row : (m : Mode) (w : Width) (x : Two → Written) (t u : Two → Tree) → width_of m ≡ Some w →
    ((p : Two) → (made (x p) w).term ≡ t p) → ((p : Two) → (made (x p) w).needs ≡ Register (suc p.1) W64 ∷ Register (suc p.0) W64 ∷ []) →
    ((p : Two) → IsSmall (t p)) → ((p : Two) → IsSmall (u p)) → ((p : Two) → trees.width_of (t p) ≡ w) → ((p : Two) → trees.width_of (u p) ≡ W64) → ((p : Two) → low_bits w (u p) ≡ t p) → TurnedRow m w x t u
turned_row m w x t u wide term needs insn_small line_small insn_wide line_wide same = record {
  wide = wide;
  term = term;
  needs = needs;
  covered = λ p. turned_covered (suc p.0) (suc p.1) W64 W64 [];
  small_needs = λ p. refl;
  small_asked = λ p. refl;
  insn_small = insn_small;
  line_small = line_small;
  insn_wide = insn_wide;
  line_wide = line_wide;
  same = same;
}

pub sgt_si : TurnedRow SI W32 (turned code.Gt SI) (λ p. truth code.Gt W32 (whole p.1) (whole p.0)) (λ p. line (operators.Test relation.Lt) (whole p.0) (whole p.1))
sgt_si = turned_row SI W32 (turned code.Gt SI) (λ p. truth code.Gt W32 (whole p.1) (whole p.0)) (λ p. line (operators.Test relation.Lt) (whole p.0) (whole p.1)) refl (λ p. refl) (λ p. refl)
    (λ p. (small_truths.less Sign p.0 p.1).1) (λ p. (small_truths.less Sign p.0 p.1).0)
    (λ p. width-built [] heads.Zext W32 0 [] (less_than Sign W64 (whole p.0) (whole p.1) ∷ [])) (λ p. wide_truth (less_than Sign W64 (whole p.0) (whole p.1)))
    (λ p. comparisons.slt_32 p.0 p.1)

pub sgt_di : TurnedRow DI W64 (turned code.Gt DI) (λ p. truth code.Gt W64 (whole p.1) (whole p.0)) (λ p. line (operators.Test relation.Lt) (whole p.0) (whole p.1))
sgt_di = turned_row DI W64 (turned code.Gt DI) (λ p. truth code.Gt W64 (whole p.1) (whole p.0)) (λ p. line (operators.Test relation.Lt) (whole p.0) (whole p.1)) refl (λ p. refl) (λ p. refl)
    (λ p. (small_truths.less Sign p.0 p.1).0) (λ p. (small_truths.less Sign p.0 p.1).0)
    (λ p. width-built [] heads.Zext W64 0 [] (less_than Sign W64 (whole p.0) (whole p.1) ∷ [])) (λ p. wide_truth (less_than Sign W64 (whole p.0) (whole p.1)))
    (λ p. comparisons.slt_64 p.0 p.1)

pub sgtu_si : TurnedRow SI W32 (turned code.Gtu SI) (λ p. truth code.Gtu W32 (whole p.1) (whole p.0)) (λ p. line (operators.Test relation.Ltu) (whole p.0) (whole p.1))
sgtu_si = turned_row SI W32 (turned code.Gtu SI) (λ p. truth code.Gtu W32 (whole p.1) (whole p.0)) (λ p. line (operators.Test relation.Ltu) (whole p.0) (whole p.1)) refl (λ p. refl) (λ p. refl)
    (λ p. (small_truths.less Zero p.0 p.1).1) (λ p. (small_truths.less Zero p.0 p.1).0)
    (λ p. width-built [] heads.Zext W32 0 [] (less_than Zero W64 (whole p.0) (whole p.1) ∷ [])) (λ p. wide_truth (less_than Zero W64 (whole p.0) (whole p.1)))
    (λ p. comparisons.sltu_32 p.0 p.1)

pub sgtu_di : TurnedRow DI W64 (turned code.Gtu DI) (λ p. truth code.Gtu W64 (whole p.1) (whole p.0)) (λ p. line (operators.Test relation.Ltu) (whole p.0) (whole p.1))
sgtu_di = turned_row DI W64 (turned code.Gtu DI) (λ p. truth code.Gtu W64 (whole p.1) (whole p.0)) (λ p. line (operators.Test relation.Ltu) (whole p.0) (whole p.1)) refl (λ p. refl) (λ p. refl)
    (λ p. (small_truths.less Zero p.0 p.1).0) (λ p. (small_truths.less Zero p.0 p.1).0)
    (λ p. width-built [] heads.Zext W64 0 [] (less_than Zero W64 (whole p.0) (whole p.1) ∷ [])) (λ p. wide_truth (less_than Zero W64 (whole p.0) (whole p.1)))
    (λ p. comparisons.sltu_64 p.0 p.1)

pub sle_si : TurnedRow SI W32 (turned code.Le SI) (λ p. truth code.Le W32 (whole p.1) (whole p.0)) (λ p. reversed (line (operators.Test relation.Lt) (whole p.0) (whole p.1)))
sle_si = turned_row SI W32 (turned code.Le SI) (λ p. truth code.Le W32 (whole p.1) (whole p.0)) (λ p. reversed (line (operators.Test relation.Lt) (whole p.0) (whole p.1))) refl (λ p. refl) (λ p. refl)
    (λ p. (small_truths.not_less Sign p.0 p.1).1) (λ p. subst IsSmall (sym (reversed_is Sign p.0 p.1)) (small_truths.not_less Sign p.0 p.1).0)
    (λ p. width-built [] heads.Zext W32 0 [] (opposite (less_than Sign W64 (whole p.0) (whole p.1)) ∷ [])) (λ p. wide_reversed (line (operators.Test relation.Lt) (whole p.0) (whole p.1)))
    (λ p. comparisons.sge_32 p.0 p.1)

pub sle_di : TurnedRow DI W64 (turned code.Le DI) (λ p. truth code.Le W64 (whole p.1) (whole p.0)) (λ p. reversed (line (operators.Test relation.Lt) (whole p.0) (whole p.1)))
sle_di = turned_row DI W64 (turned code.Le DI) (λ p. truth code.Le W64 (whole p.1) (whole p.0)) (λ p. reversed (line (operators.Test relation.Lt) (whole p.0) (whole p.1))) refl (λ p. refl) (λ p. refl)
    (λ p. (small_truths.not_less Sign p.0 p.1).0) (λ p. subst IsSmall (sym (reversed_is Sign p.0 p.1)) (small_truths.not_less Sign p.0 p.1).0)
    (λ p. width-built [] heads.Zext W64 0 [] (opposite (less_than Sign W64 (whole p.0) (whole p.1)) ∷ [])) (λ p. wide_reversed (line (operators.Test relation.Lt) (whole p.0) (whole p.1)))
    (λ p. comparisons.sge_64 p.0 p.1)

pub sleu_si : TurnedRow SI W32 (turned code.Leu SI) (λ p. truth code.Leu W32 (whole p.1) (whole p.0)) (λ p. reversed (line (operators.Test relation.Ltu) (whole p.0) (whole p.1)))
sleu_si = turned_row SI W32 (turned code.Leu SI) (λ p. truth code.Leu W32 (whole p.1) (whole p.0)) (λ p. reversed (line (operators.Test relation.Ltu) (whole p.0) (whole p.1))) refl (λ p. refl) (λ p. refl)
    (λ p. (small_truths.not_less Zero p.0 p.1).1) (λ p. subst IsSmall (sym (reversed_is Zero p.0 p.1)) (small_truths.not_less Zero p.0 p.1).0)
    (λ p. width-built [] heads.Zext W32 0 [] (opposite (less_than Zero W64 (whole p.0) (whole p.1)) ∷ [])) (λ p. wide_reversed (line (operators.Test relation.Ltu) (whole p.0) (whole p.1)))
    (λ p. comparisons.sgeu_32 p.0 p.1)

pub sleu_di : TurnedRow DI W64 (turned code.Leu DI) (λ p. truth code.Leu W64 (whole p.1) (whole p.0)) (λ p. reversed (line (operators.Test relation.Ltu) (whole p.0) (whole p.1)))
sleu_di = turned_row DI W64 (turned code.Leu DI) (λ p. truth code.Leu W64 (whole p.1) (whole p.0)) (λ p. reversed (line (operators.Test relation.Ltu) (whole p.0) (whole p.1))) refl (λ p. refl) (λ p. refl)
    (λ p. (small_truths.not_less Zero p.0 p.1).0) (λ p. subst IsSmall (sym (reversed_is Zero p.0 p.1)) (small_truths.not_less Zero p.0 p.1).0)
    (λ p. width-built [] heads.Zext W64 0 [] (opposite (less_than Zero W64 (whole p.0) (whole p.1)) ∷ [])) (λ p. wide_reversed (line (operators.Test relation.Ltu) (whole p.0) (whole p.1)))
    (λ p. comparisons.sgeu_64 p.0 p.1)
