use Rattle.std.proofs.Common.{◌≡◌, ℕ, ◌<◌, ◌≤◌, true, false, length}
use Rattle.reg_rows.specs.Row.{has}
use Rattle.reg_rows.specs.Table.{IsTable, total}
use Rattle.live_rows.specs.machine.Rows.{HasUses, IsSound}
use Rattle.live_rows.specs.machine.Waiting.{IsPending}
use Rattle.live_rows.proofs.round.round.Given as goal

abbrev pub invariant-loop-at : goal.invariant-loop-at
invariant-loop-at l = record {
  width : length l.set ≡ length l.fn.set;
  now : length l.now ≡ length l.fn.now;
  next : length l.next ≡ length l.fn.next;
  within : l.at ≤ length l.nodes;
  table : IsTable (length l.fn.set) l.rows;
  uses : HasUses l.nodes l.rows;
  sound : IsSound l.nodes l.rows;
  pending : IsPending l.nodes l.rows l.at l.now l.next;
  none : l.grew ≡ false → (place : ℕ) → has l.next place ≡ false;
  kept : total l.fn.rows ≤ total l.rows;
  grown : l.grew ≡ true → total l.fn.rows < total l.rows;
}

abbrev pub decreases-loop-at : goal.decreases-loop-at
decreases-loop-at l = l.at
