-- What a line that computes leaves in its register, by what it reads.
use Rattle.std.proofs.Common.{◌≡◌, ℕ, suc, [], ◌∷◌, ◌++◌, Some, ◌∙◌, ap}
use Rattle.std.specs.Prelude.{ℤ}
use Rattle.std.specs.Int.{cast_unsigned, w64}
use Rattle.bits64.specs.declared.Width.{Width}
use Rattle.bits64.specs.declared.Width.TheVariants.{W8, W64}
use Rattle.bits64.specs.declared.operator.Operator.{Operator}
use Rattle.rv_text.specs.Lines.{action_of}
use Rattle.rv_text.specs.declared.line.Line.{Line}
use Rattle.rv_text.specs.declared.action.Action.TheVariants.{Compute}
use Rattle.rv_text.specs.declared.action.Source.TheVariants.{First, Second, Immediate, Constant}
use Rattle.term_mean.specs.Sums.{constant}
use Rattle.sym_state.specs.State.{State, Need, Register, start, needs_at}
use Rattle.sym_state.specs.Registers.{read, read_needs, put}
use Rattle.sym_lines.specs.Run as lines
use Rattle.sym_lines.specs.Compute.{computed}
use Rattle.law_plain_terms.specs.Rows.{whole}
use Rattle.law_plain_states.proofs.OneLine.{LineSets}
use Rattle.law_plain_states.proofs.Rows.{line_sets}

-- the needs of a line: a register that it reads is set
abbrev pub is_set : ℕ → Need
is_set a = Register (suc a) W8

-- ---- the states, by the numbers in the line

abbrev two : Operator → Width → ℕ → ℕ → ℕ → State
two op v d s q = record start { regs = put [] d (Some (computed op v (read [] s W64) (read [] q W64))); needs = needs_at 0 (read_needs [] s W8 ++ read_needs [] q W8) }

abbrev immediate : Operator → Width → ℕ → ℕ → ℤ → State
immediate op v d s k = record start { regs = put [] d (Some (computed op v (read [] s W64) (constant W64 (cast_unsigned w64 k)))); needs = needs_at 0 (read_needs [] s W8 ++ []) }

abbrev fixed : Operator → ℤ → Width → ℕ → ℕ → State
fixed op k v d s = record start { regs = put [] d (Some (computed op v (read [] s W64) (constant W64 (cast_unsigned w64 k)))); needs = needs_at 0 (read_needs [] s W8 ++ []) }

abbrev from : Operator → ℤ → Width → ℕ → ℕ → State
from op k v d s = record start { regs = put [] d (Some (computed op v (constant W64 (cast_unsigned w64 k)) (read [] s W64))); needs = needs_at 0 ([] ++ read_needs [] s W8) }

-- ---- two registers

pub of_two : (op : Operator) (v : Width) (number : ℕ) (l : Line) (n a b : ℕ) → action_of l ≡ Some (Compute op v First Second) → l.rd ≡ suc n → l.rs ≡ suc a → l.rt ≡ suc b →
    LineSets number l n (computed op v (whole a) (whole b)) (is_set a ∷ is_set b ∷ [])
of_two op v number l n a b does rd rs rt = record {
  fits = ap (λ o. lines.fits_action o []) does;
  state = line_sets number l (Compute op v First Second) does ∙ (ap (λ d. two op v d l.rs l.rt) rd ∙ (ap (λ s. two op v (suc n) s l.rt) rs ∙ ap (λ q. two op v (suc n) (suc a) q) rt));
}

-- register zero and another
pub from_zero : (op : Operator) (v : Width) (number : ℕ) (l : Line) (n b : ℕ) → action_of l ≡ Some (Compute op v First Second) → l.rd ≡ suc n → l.rs ≡ 0 → l.rt ≡ suc b →
    LineSets number l n (computed op v (constant W64 0) (whole b)) (is_set b ∷ [])
from_zero op v number l n b does rd rs rt = record {
  fits = ap (λ o. lines.fits_action o []) does;
  state = line_sets number l (Compute op v First Second) does ∙ (ap (λ d. two op v d l.rs l.rt) rd ∙ (ap (λ s. two op v (suc n) s l.rt) rs ∙ ap (λ q. two op v (suc n) 0 q) rt));
}

-- ---- a register and an immediate

pub with_immediate : (op : Operator) (v : Width) (number : ℕ) (l : Line) (n a : ℕ) (k : ℤ) → action_of l ≡ Some (Compute op v First Immediate) → l.rd ≡ suc n → l.rs ≡ suc a → l.imm ≡ k →
    LineSets number l n (computed op v (whole a) (constant W64 (cast_unsigned w64 k))) (is_set a ∷ [])
with_immediate op v number l n a k does rd rs imm = record {
  fits = ap (λ o. lines.fits_action o []) does;
  state = line_sets number l (Compute op v First Immediate) does ∙ (ap (λ d. immediate op v d l.rs l.imm) rd ∙ (ap (λ s. immediate op v (suc n) s l.imm) rs ∙ ap (λ c. immediate op v (suc n) (suc a) c) imm));
}

-- ---- a register and a constant of the mnemonic

pub with_fixed : (op : Operator) (k : ℤ) (v : Width) (number : ℕ) (l : Line) (n a : ℕ) → action_of l ≡ Some (Compute op v First (Constant k)) → l.rd ≡ suc n → l.rs ≡ suc a →
    LineSets number l n (computed op v (whole a) (constant W64 (cast_unsigned w64 k))) (is_set a ∷ [])
with_fixed op k v number l n a does rd rs = record {
  fits = ap (λ o. lines.fits_action o []) does;
  state = line_sets number l (Compute op v First (Constant k)) does ∙ (ap (λ d. fixed op k v d l.rs) rd ∙ ap (λ s. fixed op k v (suc n) s) rs);
}

pub from_fixed : (op : Operator) (k : ℤ) (v : Width) (number : ℕ) (l : Line) (n a : ℕ) → action_of l ≡ Some (Compute op v (Constant k) First) → l.rd ≡ suc n → l.rs ≡ suc a →
    LineSets number l n (computed op v (constant W64 (cast_unsigned w64 k)) (whole a)) (is_set a ∷ [])
from_fixed op k v number l n a does rd rs = record {
  fits = ap (λ o. lines.fits_action o []) does;
  state = line_sets number l (Compute op v (Constant k) First) does ∙ (ap (λ d. from op k v d l.rs) rd ∙ ap (λ s. from op k v (suc n) s) rs);
}
