-- What holds of each reservation of a pipeline: an instruction of it has a way to take units, no more
-- ways than there may be, each of one cycle or more and of no more than there may be, and a latency
-- that is no greater than it may be.
use Rattle.std.specs.Prelude.{◌≤◌}
use Rattle.std.specs.List.{AllByRecursion}
use Rattle.rtx_tree.specs.Limit.{most_latency}
use Rattle.law_ways.specs.Lawful.{AreWays}
use Rattle.md_dfa.specs.declared.pipeline.Pipeline.{Pipeline}
use Rattle.md_dfa.specs.declared.reservation.Reservation.{Reservation}

pub record IsLawful (r : Reservation) : Type 0 where
  pub ways : AreWays r.ways
  pub latency : r.latency ≤ most_latency

abbrev pub AreLawful : Pipeline → Type 0
AreLawful pipeline = AllByRecursion IsLawful pipeline.reservations
