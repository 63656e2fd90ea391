use Rattle.std.proofs.Common.{◌≡◌, ℕ, ◌||◌, drop}
use Rattle.rtx_tree.specs.RegSet.{has_reg}
use Rattle.live.proofs.nodes.add_all.Given as goal

abbrev pub invariant-loop-reg : goal.invariant-loop-reg
invariant-loop-reg l = (reg : ℕ) → (has_reg l.regs reg || has_reg (drop l.reg-index l.more) reg) ≡ (has_reg l.fn.regs reg || has_reg l.more reg)
