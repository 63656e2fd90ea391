use Rattle.std.proofs.Common.{◌≡◌, ℕ, ◌||◌, ◌&&◌, not, take}
use Rattle.rtx_tree.specs.RegSet.{has_reg}
use Rattle.reg_uses.specs.Uses.{insn_uses, insn_defines}
use Rattle.live_chain.proofs.wide.unnamed.Given as goal

abbrev pub invariant-loop-reg : goal.invariant-loop-reg
invariant-loop-reg l = (other : ℕ) → has_reg l.left other ≡ (has_reg (take l.reg-index l.regs) other && not (insn_uses l.insn other || insn_defines l.insn other))
