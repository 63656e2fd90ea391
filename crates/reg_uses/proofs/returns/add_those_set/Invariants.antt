use Rattle.std.proofs.Common.{◌≡◌, ℕ, ◌||◌, ◌&&◌, drop}
use Rattle.rtx_tree.specs.RegSet.{has_reg}
use Rattle.reg_uses.specs.Uses.{function_sets}
use Rattle.reg_uses.proofs.returns.add_those_set.Given as goal

abbrev pub invariant-loop-kept : goal.invariant-loop-kept
invariant-loop-kept l = (reg : ℕ) → (has_reg l.regs reg || (has_reg (drop l.kept-index l.all) reg && function_sets l.f reg)) ≡ (has_reg l.fn.regs reg || (has_reg l.all reg && function_sets l.f reg))
