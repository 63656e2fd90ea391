use Rattle.std.proofs.Common.{◌≡◌, drop, find}
use Rattle.job_order.specs.Slots.{is_free}
use Rattle.job_order.proofs.units.free_way.Given as goal

abbrev pub invariant-loop-way : goal.invariant-loop-way
invariant-loop-way l = find (is_free l.taken l.cycle) (drop l.way-index l.ways) ≡ find (is_free l.taken l.cycle) l.ways
