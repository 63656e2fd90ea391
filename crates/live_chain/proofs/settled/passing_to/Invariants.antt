use Rattle.std.proofs.Common.{◌≡◌, ◌-◌, ◌≤◌, length, true}
use Rattle.std.specs.Prelude.{slice_range}
use Rattle.std.specs.List.{list_all}
use Rattle.live_chain.specs.machine.Window.{passes}
use Rattle.live_chain.proofs.settled.passing_to.Given as goal

abbrev pub invariant-loop-to : goal.invariant-loop-to
invariant-loop-to l = record {
  order : l.end ≤ l.to;
  within : l.to ≤ length l.insns;
  passing : list_all passes (slice_range l.insns l.end l.to) ≡ true;
}

abbrev pub decreases-loop-to : goal.decreases-loop-to
decreases-loop-to l = length l.insns - l.to
