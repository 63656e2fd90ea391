-- What a call that replaces an instruction has done.
use Rattle.std.specs.Prelude.{◌≡◌, ℕ, List, length, Some, Result, Ok, Err, slice_get}
use Rattle.rtx_tree.specs.declared.function.Insn.{Insn}
use Rattle.rtx_tree.specs.declared.function.Function.{Function}
use Rattle.rtx_tree.specs.declared.tree.Rtx.{Rtx}
use Rattle.pass_refusal.specs.Outcome.{RefusesWith}
use Rattle.pass_refusal.specs.declared.refusal.PassRefusal.{PassRefusal}
use Rattle.insn_replace.specs.Replace.{ReplacedComes}

-- a replacement: it left the function that the sequence comes to, and told how many instructions
-- this has; or it refused as it should, or memory ran out
abbrev pub Replaces : Result ℕ PassRefusal → Function → Function → ℕ → List ℕ → List Rtx → Type 0
Replaces (Ok n) f g place rule sequence =
    (i : Insn) → slice_get f.insns place ≡ Some i → ReplacedComes f place i rule sequence (Ok g) × (n ≡ length sequence)
Replaces (Err e) f g place rule sequence =
    (i : Insn) → slice_get f.insns place ≡ Some i → RefusesWith e (ReplacedComes f place i rule sequence)
