use Rattle.std.proofs.Common.{◌^◌, ◌≤◌, take}
use Rattle.std.specs.Prelude.{All}
use Rattle.live_rows.specs.Paths.{Fits}
use Rattle.live_rows.proofs.solve.width_for.Given as goal

abbrev pub invariant-loop-node : goal.invariant-loop-node
invariant-loop-node l = record {
  small : l.width ≤ 2 ^ 26;
  room : All (Fits l.width) (take l.node-index l.nodes);
}
