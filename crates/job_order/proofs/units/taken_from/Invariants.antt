use Rattle.std.proofs.Common.{◌≡◌, ◌+◌, ◌≤◌, drop, length}
use Rattle.job_order.specs.Slots.{taken_from}
use Rattle.job_order.proofs.units.taken_from.Given as goal

abbrev pub invariant-loop-offset : goal.invariant-loop-offset
invariant-loop-offset l = record {
  long : l.cycle + length l.way ≤ length l.all;
  taken : taken_from l.all (l.cycle + l.offset) (drop l.offset l.way) ≡ taken_from l.fn.taken l.cycle l.way;
}
