use Rattle.std.proofs.Common.{◌≡◌, ℕ, ◌&&◌, not, take}
use Rattle.std.specs.Prelude.{slice_range}
use Rattle.rtx_tree.specs.RegSet.{has_reg}
use Rattle.live_chain.specs.machine.Window.{is_settled}
use Rattle.live_chain.proofs.settled.unsettled.Given as goal

abbrev pub invariant-loop-reg : goal.invariant-loop-reg
invariant-loop-reg l = (other : ℕ) → has_reg l.left other ≡ (has_reg (take l.reg-index l.regs) other && not (is_settled l.old l.new (slice_range l.insns l.end l.to) other))
