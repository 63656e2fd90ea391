use Rattle.std.proofs.Common.{◌≡◌, ℕ, ◌||◌, length, take}
use Rattle.rtx_tree.specs.RegSet.{has_reg}
use Rattle.reg_rows.specs.Row.{has}
use Rattle.live_chain.proofs.room.insert_all.Given as goal

abbrev pub invariant-loop-reg : goal.invariant-loop-reg
invariant-loop-reg l = record {
  each : (other : ℕ) → has l.row other ≡ (has l.fn.row other || has_reg (take l.reg-index l.regs) other);
  width : length l.row ≡ length l.fn.row;
}
