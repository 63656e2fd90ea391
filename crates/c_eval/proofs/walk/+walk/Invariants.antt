use Rattle.std.proofs.Common.{◌≡◌, ◌+◌, ◌-◌, ◌*◌, ◌≤◌, length, drop}
use Rattle.c_eval.proofs.Gathered.{Gathers}
use Rattle.c_eval.proofs.Halves.{OnPath}
use Rattle.c_eval.proofs.walk.+walk.Given as goal

abbrev pub decreases-part_at : goal.decreases-part_at
decreases-part_at g l = 3 * l.levels + 2

abbrev pub decreases-part_before : goal.decreases-part_before
decreases-part_before g l = 3 * l.levels + 1

abbrev pub decreases-last_part : goal.decreases-last_part
decreases-last_part g l = 3 * l.levels

abbrev pub invariant-part_at-loop-first : goal.invariant-part_at-loop-first
invariant-part_at-loop-first g l = record {
  room : l.first ≤ 3;
  all : length l.readings ≡ 3;
  gathers : Gathers (g.R.Reads.read_by l.reads) l.heads l.at l.size l.start (3 - l.first) (drop l.first l.readings);
}

abbrev pub decreases-part_at-loop-first : goal.decreases-part_at-loop-first
decreases-part_at-loop-first g l = l.first

abbrev pub invariant-last_part-loop-path : goal.invariant-last_part-loop-path
invariant-last_part-loop-path g l = OnPath (g.R.Reads.read_by l.reads) l.heads l.start l.end l.middle l.path

abbrev pub decreases-last_part-loop-path : goal.decreases-last_part-loop-path
decreases-last_part-loop-path g l = l.end - l.path.end
