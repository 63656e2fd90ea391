-- The instructions that a sequence makes in the place of a window of a function's chain: GCC
-- Internals, "Insns" and "Machine-Specific Peephole Optimizers".
use Rattle.std.specs.Prelude.{◌≡◌, ℕ, ◌-◌, true, List, Some, slice_get}
use Rattle.std.specs.List.{AllByRecursion}
use Rattle.rtx_tree.specs.declared.tree.Rtx.{Rtx}
use Rattle.rtx_tree.specs.declared.function.Insn.{Insn}
use Rattle.rtx_tree.specs.declared.function.Function.{Function}
use Rattle.law_pass_needs.specs.form_needs.Needs.{is_kind}
use Rattle.law_pass_needs.specs.sym_insns.Shape.{is_shaped}
use Rattle.new_insns.specs.Made.{insn_for}
use Rattle.new_insns.specs.Replaced.{window, replaced}
use Rattle.law_insn_replaced.specs.insn_replace.Replace.{made}
use Rattle.law_window_put.specs.Put.{IsPut}

-- it is no label and no barrier
abbrev pub IsInstruction : Insn → Type 0
IsInstruction i = is_kind i.kind ≡ true

abbrev pub AreInstructions : List Insn → Type 0
AreInstructions insns = AllByRecursion IsInstruction insns

-- the function with the instructions that a sequence makes, in the place of the last of a window
abbrev pub with_sequence : Function → ℕ → ℕ → Insn → List Rtx → Function
with_sequence f first end last sequence = replaced f first end (made f last sequence)

-- The window from one place up to another, whose last instruction is given, has no label and no
-- barrier, and is equated with what the sequence makes.
pub record IsMadePut (f : Function) (first end : ℕ) (last : Insn) (sequence : List Rtx) : Type 0 where
  pub run : AreInstructions (window f first end)
  pub at_last : slice_get f.insns (end - 1) ≡ Some last
  pub put : IsPut f first end (made f last sequence)

-- An instruction is made for a pattern in the place of another: it has the kind of its pattern, and
-- the parts and modes that its codes ask for.
pub record IsMadeFor (last i : Insn) : Type 0 where
  pub uid : ℕ
  pub pattern : Rtx
  pub is : i ≡ insn_for last uid pattern
  pub instruction : IsInstruction i
  pub shaped : is_shaped i ≡ true
