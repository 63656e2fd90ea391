-- The set has what it had, and the registers in front of the place.
use Rattle.std.proofs.Common.{◌≡◌, ℕ, ◌||◌, take}
use Rattle.rtx_tree.specs.RegSet.{has_reg}
use Rattle.reuse.proofs.window.add_all.Given as goal

abbrev pub invariant-loop-reg : goal.invariant-loop-reg
invariant-loop-reg l = (n : ℕ) → has_reg l.to n ≡ (has_reg l.fn.to n || has_reg (take l.reg-index l.regs) n)
