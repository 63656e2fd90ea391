use Rattle.std.proofs.Common.{◌≡◌, ◌-◌, ◌*◌, ◌^◌, ◌≤◌, length}
use Rattle.reg_rows.specs.Table.{IsTable, total}
use Rattle.live_rows.specs.machine.Rows.{HasUses, IsSound}
use Rattle.live_rows.specs.machine.Waiting.{AreLeft}
use Rattle.live_rows.proofs.solve.solve.Given as goal

abbrev pub invariant-rounds : goal.invariant-rounds
invariant-rounds l = record {
  width : length l.set ≡ length l.fn.set;
  now : length l.nodes ≤ 64 * length l.now;
  next : length l.nodes ≤ 64 * length l.next;
  table : IsTable (length l.fn.set) l.rows;
  uses : HasUses l.nodes l.rows;
  sound : IsSound l.nodes l.rows;
  pending : AreLeft l.nodes l.rows l.now;
}

abbrev pub decreases-rounds : goal.decreases-rounds
decreases-rounds l = length l.nodes * (length l.fn.set * (2 ^ 64 - 1)) - total l.rows
