-- What is kept of a function whose windows are rewritten.
use Rattle.std.proofs.Common.{◌≡◌, ℕ, ◌+◌, ◌-◌, ◌&&◌, ◌||◌, not, true, List, [], ◌∷◌, length, Some, Ok, refl, sym, subst}
use Rattle.std.specs.Prelude.{slice_get}
use Rattle.std.proofs.lemmas.Bool.{and_parts}
use Rattle.rtx_tree.specs.declared.tree.Rtx.{Rtx}
use Rattle.rtx_tree.specs.declared.function.Insn.{Insn}
use Rattle.rtx_tree.specs.declared.function.Function.{Function}
use Rattle.rtl_func.specs.Blocks.{is_jump_kind}
use Rattle.md_forms.specs.declared.form.Entry.{Entry}
use Rattle.md_forms.specs.Forms.{names_of}
use Rattle.form_needs.specs.Needs.{is_kind, name_at}
use Rattle.new_insns.specs.Replaced.{window}
use Rattle.law_insn_replaced.specs.insn_replace.Replace.{made}
use Rattle.law_window_put.specs.Put.{IsPut}
use Rattle.law_window_made.specs.Made.{AreInstructions, with_sequence, IsMadePut}
use Rattle.window_comes.specs.Window.{WindowComes}
use Rattle.peep2.specs.Rewrite.{is_end, is_run, IsRun}
use Rattle.peep2.specs.Cover.{Answer, CoverFrom, CoverComes}

-- ---- a window

-- those that stand in one block are no labels and no barriers
pub run_instructions : (insns : List Insn) → is_run insns ≡ true → AreInstructions insns
run_instructions [] run = tt
run_instructions (i ∷ insns) run =
    let parts = and_parts (is_kind i.kind && (is_end insns || not (is_jump_kind i.kind))) (is_run insns) run in
    ((and_parts (is_kind i.kind) (is_end insns || not (is_jump_kind i.kind)) parts.0).0, run_instructions insns parts.1)

put_of : (f g : Function) (first end : ℕ) (i last : Insn) (rule : List ℕ) (sequence : List Rtx) → WindowComes f first end i last rule sequence (Ok g) →
    IsPut f first end (made f last sequence)
put_of f _ first end i last rule sequence (WindowComes.replaced put short) = put

-- what comes of a window is the function with the sequence in its place
pub comes_to : (f g : Function) (first end : ℕ) (i last : Insn) (rule : List ℕ) (sequence : List Rtx) → WindowComes f first end i last rule sequence (Ok g) →
    g ≡ with_sequence f first end last sequence
comes_to f _ first end i last rule sequence (WindowComes.replaced put short) = refl

pub window_put : (f g : Function) (place count : ℕ) (i last : Insn) (rule : List ℕ) (sequence : List Rtx) → IsRun f place count →
    slice_get f.insns (place + count - 1) ≡ Some last → WindowComes f place (place + count) i last rule sequence (Ok g) →
    IsMadePut f place (place + count) last sequence
window_put f g place count i last rule sequence run ends comes = record {
  run = run_instructions (window f place (place + count)) run.joined;
  at_last = ends;
  put = put_of f g place (place + count) i last rule sequence comes;
}

-- ---- functions

-- what stays where a sequence is put in a window's place
abbrev pub IsKept : (Function → Type 0) → Type 0
IsKept P =
    (f : Function) (first end : ℕ) (last : Insn) (sequence : List Rtx) → IsMadePut f first end last sequence → P f → P (with_sequence f first end last sequence)

module _ (forms : List Entry) (P : Function → Type 0) (keeps : IsKept P) where
  kept_from : (f : Function) (place : ℕ) (answer : Answer) (g : Function) → answer ≡ Ok g → CoverFrom forms f place answer → P f → P g
  kept_from _ _ _ g same (CoverFrom.done f place past) holds = subst P (let is : f ≡ g = cc in is) holds
  kept_from _ _ _ g same (CoverFrom.stays f place answer within left more) holds = kept_from f (place + 1) answer g same more holds
  kept_from _ _ _ g same (CoverFrom.refused f place count form i last s e at ends is comes) holds = absurd (let never : ⊥ = cc in never)
  kept_from _ _ _ g same (CoverFrom.goes f h place count form i last s answer at ends is comes more) holds =
      let put = window_put f h place count i last (name_at (names_of forms) form) s is.rewrites.run ends comes in
      let there = keeps f place (place + count) last s put holds in
      kept_from h (place + length s) answer g same more
      (subst P (sym (comes_to f h place (place + count) i last (name_at (names_of forms) form) s comes)) there)

  pub kept : (f g : Function) → CoverComes forms f (Ok g) → P f → P g
  kept f g comes holds = kept_from f 0 (Ok g) g refl comes holds
