use Rattle.std.proofs.Common.{◌≡◌, length}
use Rattle.live_rows.specs.machine.Waiting.{IsBelow}
use Rattle.live_rows.proofs.BackLaws.{AreListed}
use Rattle.live_rows.proofs.back.fill.Given as goal

abbrev pub invariant-loop-at : goal.invariant-loop-at
invariant-loop-at l = record {
  long : length l.back ≡ length l.nodes;
  below : IsBelow (length l.nodes) l.back;
  listed : AreListed l.nodes l.at l.back;
}
