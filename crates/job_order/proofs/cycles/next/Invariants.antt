use Rattle.std.proofs.Common.{◌≡◌, ◌<◌, IfSome, drop, length}
use Rattle.job_order.specs.Order.{next_from}
use Rattle.job_order.proofs.cycles.next.Given as goal

abbrev pub invariant-loop-place : goal.invariant-loop-place
invariant-loop-place l = record {
  next : next_from l.placed l.heights l.place (drop l.place l.jobs) ≡ l.next;
  within : IfSome l.next (λ place. place < length l.jobs);
}
