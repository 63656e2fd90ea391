use Rattle.std.proofs.Common.{◌≡◌, ℕ, ◌||◌, drop}
use Rattle.rtx_tree.specs.RegSet.{has_reg}
use Rattle.reg_uses.specs.Effects.{all_use}
use Rattle.reg_uses.proofs.uses.add_all_uses.Given as goal

abbrev pub invariant-loop-x : goal.invariant-loop-x
invariant-loop-x l = (reg : ℕ) → (has_reg l.regs reg || all_use reg (drop l.x-index l.effects)) ≡ (has_reg l.fn.regs reg || all_use reg l.effects)
