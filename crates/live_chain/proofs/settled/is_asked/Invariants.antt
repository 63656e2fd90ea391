use Rattle.std.proofs.Common.{◌≡◌, ◌-◌, ◌≤◌}
use Rattle.std.specs.Prelude.{slice_range}
use Rattle.live_chain.specs.machine.Window.{asks_for}
use Rattle.live_chain.proofs.settled.is_asked.Given as goal

abbrev pub invariant-loop-place : goal.invariant-loop-place
invariant-loop-place l = record {
  upto : l.place ≤ l.to;
  rest : asks_for (slice_range l.insns l.place l.to) l.reg ≡ asks_for (slice_range l.insns l.from l.to) l.reg;
}

abbrev pub decreases-loop-place : goal.decreases-loop-place
decreases-loop-place l = l.to - l.place
