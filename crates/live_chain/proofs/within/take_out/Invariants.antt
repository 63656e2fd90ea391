use Rattle.std.proofs.Common.{◌≡◌, ℕ, ◌&&◌, not, length, take}
use Rattle.rtx_tree.specs.RegSet.{has_reg}
use Rattle.reg_rows.specs.Row.{has}
use Rattle.live_chain.proofs.within.take_out.Given as goal

abbrev pub invariant-loop-reg : goal.invariant-loop-reg
invariant-loop-reg l = record {
  each : (other : ℕ) → has l.row other ≡ (has l.fn.row other && not (has_reg (take l.reg-index l.regs) other));
  width : length l.row ≡ length l.fn.row;
}
