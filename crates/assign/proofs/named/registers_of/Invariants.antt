use Rattle.std.proofs.Common.{◌≡◌, ℕ, ◌||◌, drop}
use Rattle.rtx_tree.specs.RegSet.{has_reg}
use Rattle.assign.specs.machine.Named.{stands_in}
use Rattle.assign.proofs.named.registers_of.Given as goal

abbrev pub invariant-loop-insn : goal.invariant-loop-insn
invariant-loop-insn l = (reg : ℕ) → (has_reg l.regs reg || stands_in (drop l.insn-index l.insns) reg) ≡ stands_in l.insns reg
