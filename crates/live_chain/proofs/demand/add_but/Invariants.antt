use Rattle.std.proofs.Common.{◌≡◌, ℕ, ◌||◌, ◌&&◌, not, take}
use Rattle.rtx_tree.specs.RegSet.{has_reg}
use Rattle.live_chain.proofs.demand.add_but.Given as goal

abbrev pub invariant-loop-reg : goal.invariant-loop-reg
invariant-loop-reg l = (other : ℕ) → has_reg l.regs other ≡ (has_reg l.fn.regs other || (has_reg (take l.reg-index l.more) other && not (has_reg l.but other)))
