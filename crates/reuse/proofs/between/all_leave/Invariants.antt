-- What holds of the rest from the place on holds of all.
use Rattle.std.proofs.Common.{◌≡◌, ◌+◌, ◌-◌, ◌<◌, ◌≤◌}
use Rattle.std.specs.List.{list_all}
use Rattle.new_insns.specs.Replaced.{window}
use Rattle.reuse.specs.Reuse.{leaves}
use Rattle.reuse.proofs.between.all_leave.Given as goal

abbrev pub invariant-loop-place : goal.invariant-loop-place
invariant-loop-place l = record {
  rest : list_all (leaves l.reg) (window l.chain l.place l.second) ≡ list_all (leaves l.reg) (window l.chain (l.first + 1) l.second);
  above : l.first < l.place;
  upto : l.place ≤ l.second;
}

abbrev pub decreases-loop-place : goal.decreases-loop-place
decreases-loop-place l = l.second - l.place
