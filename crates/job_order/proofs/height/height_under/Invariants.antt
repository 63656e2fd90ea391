use Rattle.std.proofs.Common.{◌≡◌, ◌+◌, ◌*◌, ◌≤◌, max, drop, length}
use Rattle.rtx_tree.specs.Limit.{most_latency}
use Rattle.job_order.specs.Jobs.{height_under}
use Rattle.job_order.proofs.height.height_under.Given as goal

abbrev pub invariant-loop-at : goal.invariant-loop-at
invariant-loop-at l = record {
  under : max l.highest (height_under l.place (drop l.at l.jobs) (drop l.at l.heights)) ≡ height_under l.place (drop (l.place + 1) l.jobs) (drop (l.place + 1) l.heights);
  low : l.highest + most_latency * l.place ≤ most_latency * length l.jobs;
}
