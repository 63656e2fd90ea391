use Rattle.std.proofs.Common.{◌≡◌, ℕ, ◌||◌, drop}
use Rattle.std.specs.List.{list_any}
use Rattle.rtx_tree.specs.RegSet.{has_reg}
use Rattle.reg_uses.specs.Effects.{reads}
use Rattle.reg_uses.proofs.reads.+add_reads.Given as goal

abbrev pub invariant-loop-kid : goal.invariant-loop-kid
invariant-loop-kid l = (reg : ℕ) → (has_reg l.regs reg || list_any (reads reg) (drop l.kid-index l.kid-items)) ≡ (has_reg l.fn.regs reg || reads reg l.x)
