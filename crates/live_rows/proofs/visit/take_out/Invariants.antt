use Rattle.std.proofs.Common.{◌≡◌, ℕ, ◌&&◌, not, take, length}
use Rattle.reg_rows.specs.Row.{has, lists}
use Rattle.live_rows.proofs.visit.take_out.Given as goal

abbrev pub invariant-loop-reg : goal.invariant-loop-reg
invariant-loop-reg l = record {
  width : length l.set ≡ length l.fn.set;
  each : (other : ℕ) → has l.set other ≡ (has l.fn.set other && not (lists (take l.reg-index l.regs) other));
}
