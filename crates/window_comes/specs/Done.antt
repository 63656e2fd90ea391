-- What a call that replaces a window has done.
use Rattle.std.specs.Prelude.{◌≡◌, ℕ, ◌-◌, List, length, Some, Result, Ok, Err, slice_get}
use Rattle.rtx_tree.specs.declared.function.Insn.{Insn}
use Rattle.rtx_tree.specs.declared.function.Function.{Function}
use Rattle.rtx_tree.specs.declared.tree.Rtx.{Rtx}
use Rattle.pass_refusal.specs.Outcome.{RefusesWith}
use Rattle.pass_refusal.specs.declared.refusal.PassRefusal.{PassRefusal}
use Rattle.window_comes.specs.Window.{WindowComes}

-- the first and the last instruction of the window from one place up to another
pub record HasEnds (f : Function) (first end : ℕ) (i last : Insn) : Type 0 where
  pub at_first : slice_get f.insns first ≡ Some i
  pub at_last : slice_get f.insns (end - 1) ≡ Some last

-- a replacement: it left the function that the sequence comes to, and told how many instructions
-- this has; or it refused as it should, or memory ran out
abbrev pub Replaces : Result ℕ PassRefusal → Function → Function → ℕ → ℕ → List ℕ → List Rtx → Type 0
Replaces (Ok n) f g first end rule sequence =
    (i last : Insn) → HasEnds f first end i last → WindowComes f first end i last rule sequence (Ok g) × (n ≡ length sequence)
Replaces (Err e) f g first end rule sequence =
    (i last : Insn) → HasEnds f first end i last → RefusesWith e (WindowComes f first end i last rule sequence)
