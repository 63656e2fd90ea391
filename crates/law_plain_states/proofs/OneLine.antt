-- One line that sets the register that an instruction sets.
use Rattle.std.proofs.Common.{◌≡◌, ℕ, suc, true, List, [], ◌∷◌, Some, None, sym, ◌∙◌, ap, subst}
use Rattle.std.specs.List.{list_all}
use Rattle.bits64.specs.declared.Width.{Width}
use Rattle.bits64.specs.declared.Width.TheVariants.{W64}
use Rattle.rtx_tree.specs.declared.code.Mode.{Mode}
use Rattle.rtx_tree.specs.declared.function.Insn.{Insn}
use Rattle.rtx_tree.specs.declared.function.Kind.TheVariants.{Plain}
use Rattle.rtl_step.specs.Value.{width_of}
use Rattle.rv_text.specs.Lines.{action_of}
use Rattle.rv_text.specs.declared.line.Line.{Line}
use Rattle.term_tree.specs.Tree as trees
use Rattle.term_tree.specs.Tree.{Tree}
use Rattle.term_mean.specs.Compared.{low_bits}
use Rattle.sym_state.specs.State.{Need, Runs, start, is_within, is_small_need, needs_at}
use Rattle.sym_insns.specs.Run as insns
use Rattle.sym_insns.specs.Shape.{is_shaped}
use Rattle.sym_lines.specs.Run as lines
use Rattle.sym_diff.specs.States.{difference}
use Rattle.equate.specs.Side.{Lines}
use Rattle.equate.specs.Equated.{Equated}
use Rattle.rtx_open.proofs.Expressions.{Written, rtx}
use Rattle.law_plain_terms.specs.Rows.{IsSmall}
use Rattle.law_plain_states.specs.Frames.{AreCovered, sets}
use Rattle.law_plain_states.proofs.Agreed.{set_agrees}
use Rattle.law_plain_states.proofs.Effects.{register, set_of, made}
use Rattle.law_plain_states.proofs.Equated.{insn_runs, line_runs, equated}
use Rattle.law_plain_states.proofs.Rows.{known, insn_sets, small_state, fits_plain, stays_plain}

-- each need is within the limit on terms
abbrev pub AreSmallNeeds : List Need → Type 0
AreSmallNeeds needs = list_all (λ n. is_small_need n.what) (needs_at 0 needs) ≡ true

-- an instruction that sets a register from an expression with the value of one that is written out
pub record Sets (i : Insn) (m : Mode) (n : ℕ) (x : Written) : Type 0 where
  pub plain : i.kind ≡ Plain
  pub shaped : is_shaped i ≡ true
  pub source : Written
  pub pattern : i.pattern ≡ rtx (set_of (register m n) source)
  pub same : (w : Width) → made source w ≡ made x w

-- a line that sets it
pub record LineSets (number : ℕ) (l : Line) (n : ℕ) (u : Tree) (asked : List Need) : Type 0 where
  pub fits : lines.fits_action (action_of l) [] ≡ true
  pub state : lines.after number 0 l start ≡ sets (suc n) u (needs_at 0 asked)

-- What holds of a row, for all its operands: what its instruction sets and needs; that its lines leave
-- so much in the register, and need no more; and that all terms are within the limit.
pub record Row {P : Type 0} (m : Mode) (w : Width) (x : P → Written) (t u : P → Tree) (had asked : P → List Need) : Type 0 where
  pub wide : width_of m ≡ Some w
  pub term : (p : P) → (made (x p) w).term ≡ t p
  pub needs : (p : P) → (made (x p) w).needs ≡ had p
  pub covered : (p : P) → AreCovered (needs_at 0 (had p)) (needs_at 0 (asked p))
  pub small_needs : (p : P) → AreSmallNeeds (had p)
  pub small_asked : (p : P) → AreSmallNeeds (asked p)
  pub insn_small : (p : P) → IsSmall (t p)
  pub line_small : (p : P) → IsSmall (u p)
  pub insn_wide : (p : P) → trees.width_of (t p) ≡ w
  pub line_wide : (p : P) → trees.width_of (u p) ≡ W64
  pub same : (p : P) → low_bits w (u p) ≡ t p

module _ {P : Type 0} (m : Mode) (w : Width) (x : P → Written) (t u : P → Tree) (had asked : P → List Need) (row : Row m w x t u had asked) where
  insn_state : (i : Insn) (n : ℕ) (p : P) → Sets i m n (x p) → insns.after 0 i start ≡ sets (suc n) (t p) (needs_at 0 (had p))
  insn_state i n p s =
      insn_sets i m n s.source w s.plain s.pattern row.wide ∙ (ap (λ v. sets (suc n) v.term (needs_at 0 v.needs)) (s.same w) ∙
      (ap (λ v. sets (suc n) v (needs_at 0 (made (x p) w).needs)) (row.term p) ∙ ap (λ v. sets (suc n) (t p) (needs_at 0 v)) (row.needs p)))

  -- lines that set the same are equated with the instruction, whatever is live behind it
  pub lines_equated : (number : ℕ) (live : List ℕ) (i : Insn) (ls : List Line) (n : ℕ) (p : P) → Sets i m n (x p) → lines.run number ls ≡ Runs (sets (suc n) (u p) (needs_at 0 (asked p))) →
      Equated (i ∷ []) (Lines number ls) live
  lines_equated number live i ls n p s runs =
      let here = insn_state i n p s in
      let comes = insn_runs i (fits_plain i s.plain s.shaped) (ap is_within here ∙ small_state (suc n) (t p) (needs_at 0 (had p)) (row.insn_small p) (row.small_needs p)) in
      equated i number ls live (insns.after 0 i start) (sets (suc n) (u p) (needs_at 0 (asked p))) (stays_plain i s.plain) comes runs
      (subst (λ a. difference true live a (sets (suc n) (u p) (needs_at 0 (asked p))) ≡ None) (sym here)
      (set_agrees live (suc n) (t p) (u p) (needs_at 0 (had p)) (needs_at 0 (asked p)) (known w (t p) (u p) (row.insn_wide p) (row.line_wide p) (row.same p)) (row.covered p)))

  pub row_equated : (number : ℕ) (live : List ℕ) (i : Insn) (l : Line) (n : ℕ) (p : P) → Sets i m n (x p) → LineSets number l n (u p) (asked p) → Equated (i ∷ []) (Lines number (l ∷ [])) live
  row_equated number live i l n p s goes =
      lines_equated number live i (l ∷ []) n p s
      (line_runs number l goes.fits (ap is_within goes.state ∙ small_state (suc n) (u p) (needs_at 0 (asked p)) (row.line_small p) (row.small_asked p)) ∙ ap Runs goes.state)
