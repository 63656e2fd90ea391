-- The set has register 0, and what the instructions in front of the place define.
use Rattle.std.proofs.Common.{◌≡◌, ℕ, ◌||◌, ◌==◌, take}
use Rattle.rtx_tree.specs.RegSet.{has_reg}
use Rattle.law_window_runs.specs.Uses.{window_defines}
use Rattle.reuse.proofs.window.defined_in.Given as goal

abbrev pub invariant-loop-insn : goal.invariant-loop-insn
invariant-loop-insn l = (n : ℕ) → has_reg l.regs n ≡ ((n == 0) || window_defines (take l.insn-index l.insns) n)
