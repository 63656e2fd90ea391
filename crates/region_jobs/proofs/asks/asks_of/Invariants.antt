use Rattle.std.proofs.Common.{◌≡◌, ◌++◌, drop}
use Rattle.region_jobs.specs.Jobs.{asks_from}
use Rattle.region_jobs.proofs.asks.asks_of.Given as goal

abbrev pub invariant-loop-place : goal.invariant-loop-place
invariant-loop-place l = l.asks ++ asks_from l.place (drop l.place l.before) (drop l.place l.latencies) l.later ≡ asks_from 0 l.before l.latencies l.later
