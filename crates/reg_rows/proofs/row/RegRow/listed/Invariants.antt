use Rattle.std.proofs.Common.{◌≡◌, ℕ, ◌-◌, ◌*◌, ◌^◌, ◌≤◌, take, length, sum}
use Rattle.reg_rows.specs.Row.{has, lists}
use Rattle.reg_rows.proofs.row.RegRow.listed.Given as goal

abbrev pub invariant-loop-reg : goal.invariant-loop-reg
invariant-loop-reg l = record {
  width : length l.row ≡ l.width;
  fits : sum l.row ≤ l.width * (2 ^ 64 - 1);
  each : (other : ℕ) → has l.row other ≡ lists (take l.reg-index l.regs) other;
}
