-- Rows of a constant alone, and of the address of a symbol.
use Rattle.std.proofs.Common.{◌≡◌, ℕ, suc, pos, [], Some, refl, sym, subst, ◌∙◌, ap}
use Rattle.std.specs.Prelude.{ℤ}
use Rattle.std.specs.Int.{cast_unsigned, w64}
use Rattle.bits64.specs.declared.Width.{Width}
use Rattle.bits64.specs.declared.Width.TheVariants.{W8, W16, W32, W64}
use Rattle.bits64.specs.declared.operator.Operator.TheVariants as operators
use Rattle.rtx_tree.specs.declared.code.Mode.{Mode}
use Rattle.rtx_tree.specs.declared.code.Mode.TheVariants.{QI, HI, SI, DI}
use Rattle.rtl_step.specs.Value.{width_of}
use Rattle.rv_text.specs.declared.action.Source.TheVariants.{Immediate, Constant}
use Rattle.term_tree.specs.Tree as trees
use Rattle.term_tree.specs.Tree.{Tree}
use Rattle.term_mean.specs.Sums.{constant}
use Rattle.term_mean.specs.Compared.{low_bits}
use Rattle.sym_lines.specs.Compute.{computed}
use Rattle.rv_text.specs.Lines.{action_of}
use Rattle.rv_text.specs.declared.line.Line.{Line}
use Rattle.rv_text.specs.declared.action.Action.TheVariants.{Compute}
use Rattle.sym_state.specs.State.{State, start}
use Rattle.sym_state.specs.Registers.{put}
use Rattle.sym_lines.specs.Run as lines
use Rattle.law_plain_terms.specs.Rows.{IsSmall}
use Rattle.law_plain_terms.proofs.Moves as moves
use Rattle.law_plain_states.proofs.Effects.{made}
use Rattle.law_plain_states.proofs.Rows.{line_sets}
use Rattle.law_plain_states.proofs.OneLine.{Row, LineSets}
use Rattle.law_plain_rows.proofs.WithConstant.{number}

-- ---- what `li` loads

abbrev pub loaded : ℤ → Tree
loaded k = computed operators.Add W64 (constant W64 (cast_unsigned w64 k)) (constant W64 0)

abbrev behind : ℕ → ℤ → State
behind d k = record start { regs = put [] d (Some (loaded k)); needs = [] }

pub loads : (number : ℕ) (l : Line) (n : ℕ) (k : ℤ) → action_of l ≡ Some (Compute operators.Add W64 Immediate (Constant (pos 0))) → l.rd ≡ suc n → l.imm ≡ k → LineSets number l n (loaded k) []
loads number l n k does rd imm = record {
  fits = ap (λ o. lines.fits_action o []) does;
  state = line_sets number l (Compute operators.Add W64 Immediate (Constant (pos 0))) does ∙ (ap (λ d. behind d l.imm) rd ∙ ap (λ c. behind (suc n) c) imm);
}

-- ---- the rows

abbrev pub ConstantAlone : Mode → Width → Type 0
ConstantAlone m w = Row m w number (λ k. constant w (cast_unsigned w64 k)) loaded (λ k. []) (λ k. [])

loaded_is : (k : ℤ) → loaded k ≡ constant W64 (cast_unsigned w64 k)
loaded_is k = moves.sum_of_constant (cast_unsigned w64 k)

row : (m : Mode) (w : Width) → width_of m ≡ Some w → ((k : ℤ) → (made (number k) w).term ≡ constant w (cast_unsigned w64 k)) → ((k : ℤ) → (made (number k) w).needs ≡ []) →
    ((k : ℤ) → IsSmall (constant w (cast_unsigned w64 k))) → ((k : ℤ) → trees.width_of (constant w (cast_unsigned w64 k)) ≡ w) → ((k : ℤ) → low_bits w (loaded k) ≡ constant w (cast_unsigned w64 k)) → ConstantAlone m w
row m w wide term needs small of_width same = record {
  wide = wide;
  term = term;
  needs = needs;
  covered = λ k. refl;
  small_needs = λ k. refl;
  small_asked = λ k. refl;
  insn_small = small;
  line_small = λ k. subst IsSmall (sym (loaded_is k)) refl;
  insn_wide = of_width;
  line_wide = λ k. subst (λ t. trees.width_of t ≡ W64) (sym (loaded_is k)) refl;
  same = same;
}

pub li_qi : ConstantAlone QI W8
li_qi = row QI W8 refl (λ k. refl) (λ k. refl) (λ k. refl) (λ k. refl) (λ k. moves.load_8 (cast_unsigned w64 k))

pub li_hi : ConstantAlone HI W16
li_hi = row HI W16 refl (λ k. refl) (λ k. refl) (λ k. refl) (λ k. refl) (λ k. moves.load_16 (cast_unsigned w64 k))

pub li_si : ConstantAlone SI W32
li_si = row SI W32 refl (λ k. refl) (λ k. refl) (λ k. refl) (λ k. refl) (λ k. moves.load_32 (cast_unsigned w64 k))

pub li_di : ConstantAlone DI W64
li_di = row DI W64 refl (λ k. refl) (λ k. refl) (λ k. refl) (λ k. refl) (λ k. moves.load_64 (cast_unsigned w64 k))
