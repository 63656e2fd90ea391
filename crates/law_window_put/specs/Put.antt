-- Instructions in the place of a window of a function's chain with which they were compared over
-- what is live behind it: GCC Internals, "Insns" and "Liveness information"; RISC-V ELF psABI,
-- "Integer Calling Convention".
use Rattle.std.specs.Prelude.{◌≡◌, ℕ, ◌-◌, ◌<◌, ◌≤◌, true, false, List, length}
use Rattle.std.specs.List.{AllByRecursion}
use Rattle.rtx_tree.specs.declared.function.Insn.{Insn}
use Rattle.rtx_tree.specs.declared.function.Function.{Function}
use Rattle.rtl_step.specs.Step.{is_mark}
use Rattle.rtl_func.specs.Calls.{argument_registers}
use Rattle.live.specs.Live.{AreLiveAfter}
use Rattle.new_insns.specs.Replaced.{window}
use Rattle.equate.specs.Side.{Insns}
use Rattle.equate.specs.Equated.{Equated}

-- the window from one place up to another is equated with the instructions
pub record IsPut (f : Function) (first end : ℕ) (new : List Insn) : Type 0 where
  pub order : first < end
  pub within : end ≤ length f.insns
  pub live : List ℕ
  pub are : AreLiveAfter f (end - 1) live
  pub equated : Equated (window f first end) (Insns new) live

-- of the hard registers each instruction names a0 to a7 alone, and a call is handed these alone
abbrev pub KeepToArguments : List Insn → Type 0
KeepToArguments insns = AllByRecursion (λ (i : Insn). is_mark i.kind ≡ false → argument_registers i.pattern i.uses ≡ true) insns
