use Rattle.std.proofs.Common.{◌≡◌, drop, length}
use Rattle.job_order.specs.Jobs.{heights_from}
use Rattle.job_order.specs.machine.Bounds.{AreLow}
use Rattle.job_order.proofs.height.heights_of.Given as goal

abbrev pub invariant-loop-place : goal.invariant-loop-place
invariant-loop-place l = record {
  behind : drop l.place l.heights.items ≡ heights_from l.place (drop l.place l.jobs);
  all : length l.heights.items ≡ length l.jobs;
  low : AreLow l.heights.items;
}
