use Rattle.std.proofs.Common.{◌-◌, ◌<◌, ◌≤◌}
use Rattle.combine.specs.Combine.{PassesBetween}
use Rattle.combine.proofs.link.pass_between.Given as goal

abbrev pub invariant-loop-place : goal.invariant-loop-place
invariant-loop-place l = record {
  passed : PassesBetween l.chain l.first l.place l.reg;
  above : l.first < l.place;
  upto : l.place ≤ l.second;
}

abbrev pub decreases-loop-place : goal.decreases-loop-place
decreases-loop-place l = l.second - l.place
