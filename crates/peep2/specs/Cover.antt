-- Peephole optimizations over a function: GCC Internals, "RTL to RTL Peephole Optimizers".
use Rattle.std.specs.Prelude.{◌≡◌, ℕ, ◌+◌, ◌-◌, ◌<◌, ◌≤◌, List, length, Some, Result, Ok, Err, slice_get}
use Rattle.rtx_tree.specs.declared.tree.Rtx.{Rtx}
use Rattle.rtx_tree.specs.declared.function.Insn.{Insn}
use Rattle.rtx_tree.specs.declared.function.Function.{Function}
use Rattle.md_forms.specs.declared.form.Entry.{Entry}
use Rattle.md_forms.specs.Forms.{names_of}
use Rattle.form_needs.specs.Needs.{name_at}
use Rattle.pass_refusal.specs.declared.refusal.PassRefusal.{PassRefusal}
use Rattle.window_comes.specs.Window.{WindowComes}
use Rattle.peep2.specs.Rewrite.{IsRewrite, IsLeft}

-- a function, or a refusal
abbrev pub Answer : Type 0
Answer = Result Function PassRefusal

-- What a function comes to from a place on. An instruction at which no form rewrites a window
-- stays. Else the sequence of the first form that does stands in the window's place, where it is
-- equated with it over what is live behind, and what follows is looked at behind the sequence.
pub data CoverFrom (forms : List Entry) : Function → ℕ → Answer → Type 0 where
  done : (f : Function) (place : ℕ) → length f.insns ≤ place → CoverFrom forms f place (Ok f)
  stays : (f : Function) (place : ℕ) (answer : Answer) → place < length f.insns →
      IsLeft forms f place → CoverFrom forms f (place + 1) answer → CoverFrom forms f place answer
  refused : (f : Function) (place count form : ℕ) (i last : Insn) (sequence : List Rtx) (e : PassRefusal) →
      slice_get f.insns place ≡ Some i → slice_get f.insns (place + count - 1) ≡ Some last →
      IsRewrite forms f place count form sequence →
      WindowComes f place (place + count) i last (name_at (names_of forms) form) sequence (Err e) →
      CoverFrom forms f place (Err e)
  goes : (f g : Function) (place count form : ℕ) (i last : Insn) (sequence : List Rtx) (answer : Answer) →
      slice_get f.insns place ≡ Some i → slice_get f.insns (place + count - 1) ≡ Some last →
      IsRewrite forms f place count form sequence →
      WindowComes f place (place + count) i last (name_at (names_of forms) form) sequence (Ok g) →
      CoverFrom forms g (place + length sequence) answer → CoverFrom forms f place answer

-- from its beginning
abbrev pub CoverComes : List Entry → Function → Answer → Type 0
CoverComes forms f answer = CoverFrom forms f 0 answer
