use Rattle.std.proofs.Common.{◌≡◌, ◌-◌}
use Rattle.dfa_ways.specs.Ways as spec
use Rattle.dfa_ways.proofs.join.repeated.Given as goal

abbrev pub invariant-loop-time : goal.invariant-loop-time
invariant-loop-time l = spec.repeated (l.count - l._time) l.all l.ways ≡ spec.repeated l.count spec.no_cycle l.ways
