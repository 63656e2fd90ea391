-- Rows of a register and a constant whose text has two lines: not less.
use Rattle.std.proofs.Common.{◌≡◌, ℕ, suc, [], ◌∷◌, Some, refl, sym, subst, ◌∙◌}
use Rattle.bits64.specs.declared.Width.{Width}
use Rattle.bits64.specs.declared.Width.TheVariants.{W32, W64}
use Rattle.bits64.specs.declared.operator.Operator.TheVariants as operators
use Rattle.bits64.specs.declared.operator.Relation.TheVariants as relation
use Rattle.rtx_tree.specs.declared.code.Code.TheVariants as code
use Rattle.rtx_tree.specs.declared.code.Mode.{Mode}
use Rattle.rtx_tree.specs.declared.code.Mode.TheVariants.{SI, DI}
use Rattle.rtl_step.specs.Value.{width_of}
use Rattle.term_tree.specs.declared.head.Head.TheVariants as heads
use Rattle.term_tree.specs.declared.head.Extension.TheVariants.{Zero, Sign}
use Rattle.term_tree.specs.Tree as trees
use Rattle.term_tree.specs.Tree.{Tree}
use Rattle.term_mean.specs.Sums.{constant}
use Rattle.term_mean.specs.Less.{less_than}
use Rattle.term_mean.specs.Truths.{opposite}
use Rattle.term_mean.specs.Compared.{low_bits}
use Rattle.term_mean.proofs.NormalWidths.{width-built}
use Rattle.sym_state.specs.State.{Register}
use Rattle.sym_state.specs.Makers.{one}
use Rattle.rtx_open.proofs.Expressions.{Written}
use Rattle.law_plain_terms.specs.Rows.{whole, truth, reversed, IsSmall}
use Rattle.law_plain_terms.proofs.LessConstant as less
use Rattle.law_plain_terms.proofs.SmallTruths as small_truths
use Rattle.law_plain_states.proofs.Effects.{made}
use Rattle.law_plain_states.proofs.Rows.{one_covered}
use Rattle.law_plain_states.proofs.OneLine.{Row}
use Rattle.law_plain_states.proofs.Computes.{is_set}
use Rattle.law_plain_rows.proofs.WithConstant.{With, word, line_value}
use Rattle.law_plain_rows.proofs.ConstantValues.{compared}
use Rattle.law_plain_rows.proofs.Pairs.{low_reversed, wide_reversed}

-- ---- the rows, by what is particular to each

abbrev pub PairRow : Mode → Width → (With → Written) → (With → Tree) → (With → Tree) → Type 0
PairRow m w x t u = Row m w x t u (λ p. Register (suc p.0) W64 ∷ []) (λ p. is_set p.0 ∷ [])

row : (m : Mode) (w : Width) (x : With → Written) (t u : With → Tree) → width_of m ≡ Some w →
    ((p : With) → (made (x p) w).term ≡ t p) → ((p : With) → (made (x p) w).needs ≡ Register (suc p.0) W64 ∷ []) →
    ((p : With) → IsSmall (t p)) → ((p : With) → IsSmall (u p)) → ((p : With) → trees.width_of (t p) ≡ w) → ((p : With) → trees.width_of (u p) ≡ W64) → ((p : With) → low_bits w (u p) ≡ t p) → PairRow m w x t u
row m w x t u wide term needs insn_small line_small insn_wide line_wide same = record {
  wide = wide;
  term = term;
  needs = needs;
  covered = λ p. one_covered (suc p.0) W64 [];
  small_needs = λ p. refl;
  small_asked = λ p. refl;
  insn_small = insn_small;
  line_small = line_small;
  insn_wide = insn_wide;
  line_wide = line_wide;
  same = same;
}

-- ---- not less: the exclusive or of the truth with 1

signed_reversed : (a c : ℕ) → reversed (one [] heads.Zext W64 (less_than Sign W64 (whole a) (constant W64 c))) ≡ one [] heads.Zext W64 (opposite (less_than Sign W64 (whole a) (constant W64 c)))
signed_reversed a c = sym (low_reversed (one [] heads.Zext W64 (less_than Sign W64 (whole a) (constant W64 c)))) ∙ less.sgei_64 a c

unsigned_reversed : (a c : ℕ) → reversed (one [] heads.Zext W64 (less_than Zero W64 (whole a) (constant W64 c))) ≡ one [] heads.Zext W64 (opposite (less_than Zero W64 (whole a) (constant W64 c)))
unsigned_reversed a c = sym (low_reversed (one [] heads.Zext W64 (less_than Zero W64 (whole a) (constant W64 c)))) ∙ less.sgeiu_64 a c

-- what the first line leaves
pub first_less : (a c : ℕ) → IsSmall (one [] heads.Zext W64 (less_than Sign W64 (whole a) (constant W64 c))) × IsSmall (one [] heads.Zext W64 (less_than Zero W64 (whole a) (constant W64 c)))
first_less a c = ((small_truths.less_constant a c).0, (small_truths.below_constant a c).0)

pub sgei_si : PairRow SI W32 (compared code.Ge SI) (λ p. truth code.Ge W32 (whole p.0) (constant W64 (word p))) (λ p. reversed (line_value (operators.Test relation.Lt) W64 p))
sgei_si = row SI W32 (compared code.Ge SI) (λ p. truth code.Ge W32 (whole p.0) (constant W64 (word p))) (λ p. reversed (line_value (operators.Test relation.Lt) W64 p)) refl (λ p. refl) (λ p. refl)
    (λ p. (small_truths.not_less_constant p.0 (word p)).1) (λ p. subst IsSmall (sym (signed_reversed p.0 (word p))) (small_truths.not_less_constant p.0 (word p)).0)
    (λ p. width-built [] heads.Zext W32 0 [] (opposite (less_than Sign W64 (whole p.0) (constant W64 (word p))) ∷ [])) (λ p. wide_reversed (line_value (operators.Test relation.Lt) W64 p))
    (λ p. less.sgei_32 p.0 (word p))

pub sgei_di : PairRow DI W64 (compared code.Ge DI) (λ p. truth code.Ge W64 (whole p.0) (constant W64 (word p))) (λ p. reversed (line_value (operators.Test relation.Lt) W64 p))
sgei_di = row DI W64 (compared code.Ge DI) (λ p. truth code.Ge W64 (whole p.0) (constant W64 (word p))) (λ p. reversed (line_value (operators.Test relation.Lt) W64 p)) refl (λ p. refl) (λ p. refl)
    (λ p. (small_truths.not_less_constant p.0 (word p)).0) (λ p. subst IsSmall (sym (signed_reversed p.0 (word p))) (small_truths.not_less_constant p.0 (word p)).0)
    (λ p. width-built [] heads.Zext W64 0 [] (opposite (less_than Sign W64 (whole p.0) (constant W64 (word p))) ∷ [])) (λ p. wide_reversed (line_value (operators.Test relation.Lt) W64 p))
    (λ p. less.sgei_64 p.0 (word p))

pub sgeiu_si : PairRow SI W32 (compared code.Geu SI) (λ p. truth code.Geu W32 (whole p.0) (constant W64 (word p))) (λ p. reversed (line_value (operators.Test relation.Ltu) W64 p))
sgeiu_si = row SI W32 (compared code.Geu SI) (λ p. truth code.Geu W32 (whole p.0) (constant W64 (word p))) (λ p. reversed (line_value (operators.Test relation.Ltu) W64 p)) refl (λ p. refl) (λ p. refl)
    (λ p. (small_truths.not_below_constant p.0 (word p)).1) (λ p. subst IsSmall (sym (unsigned_reversed p.0 (word p))) (small_truths.not_below_constant p.0 (word p)).0)
    (λ p. width-built [] heads.Zext W32 0 [] (opposite (less_than Zero W64 (whole p.0) (constant W64 (word p))) ∷ [])) (λ p. wide_reversed (line_value (operators.Test relation.Ltu) W64 p))
    (λ p. less.sgeiu_32 p.0 (word p))

pub sgeiu_di : PairRow DI W64 (compared code.Geu DI) (λ p. truth code.Geu W64 (whole p.0) (constant W64 (word p))) (λ p. reversed (line_value (operators.Test relation.Ltu) W64 p))
sgeiu_di = row DI W64 (compared code.Geu DI) (λ p. truth code.Geu W64 (whole p.0) (constant W64 (word p))) (λ p. reversed (line_value (operators.Test relation.Ltu) W64 p)) refl (λ p. refl) (λ p. refl)
    (λ p. (small_truths.not_below_constant p.0 (word p)).0) (λ p. subst IsSmall (sym (unsigned_reversed p.0 (word p))) (small_truths.not_below_constant p.0 (word p)).0)
    (λ p. width-built [] heads.Zext W64 0 [] (opposite (less_than Zero W64 (whole p.0) (constant W64 (word p))) ∷ [])) (λ p. wide_reversed (line_value (operators.Test relation.Ltu) W64 p))
    (λ p. less.sgeiu_64 p.0 (word p))
