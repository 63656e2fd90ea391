use Rattle.std.proofs.Common.{◌≡◌, ℕ, ◌||◌, drop}
use Rattle.rtx_tree.specs.RegSet.{has_reg}
use Rattle.reg_uses.specs.Uses.{has_argument}
use Rattle.reg_uses.proofs.uses.add_arguments.Given as goal

abbrev pub invariant-loop-argument : goal.invariant-loop-argument
invariant-loop-argument l = (reg : ℕ) → (has_reg l.regs reg || has_argument reg (drop l.argument-index l.uses)) ≡ (has_reg l.fn.regs reg || has_argument reg l.uses)
