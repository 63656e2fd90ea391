use Rattle.std.proofs.Common.{◌≡◌, ℕ, ◌||◌, ◌&&◌, not, take}
use Rattle.rtx_tree.specs.RegSet.{has_reg}
use Rattle.reg_rows.specs.Row.{has}
use Rattle.live_chain.proofs.demand.add_live_but.Given as goal

abbrev pub invariant-loop-reg : goal.invariant-loop-reg
invariant-loop-reg l = (other : ℕ) → has_reg l.regs other ≡
    (has_reg l.fn.regs other || (has_reg (take l.reg-index l.more) other && (has l.behind other && (not (has_reg l.asks other) && not (has_reg l.but other)))))
