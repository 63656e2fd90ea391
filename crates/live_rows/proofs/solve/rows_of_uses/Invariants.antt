use Rattle.std.proofs.Common.{◌≡◌, ℕ, vec_len, take}
use Rattle.reg_rows.specs.Table.{has_at, IsTable}
use Rattle.live_rows.specs.machine.Rows.{uses_at}
use Rattle.live_rows.proofs.solve.rows_of_uses.Given as goal

abbrev pub invariant-loop-node : goal.invariant-loop-node
invariant-loop-node l = record {
  long : vec_len l.rows ≡ l.node-index;
  table : IsTable l.width l.rows.items;
  each : (at reg : ℕ) → has_at l.rows.items at reg ≡ uses_at (take l.node-index l.nodes) at reg;
}
