-- That no unit is taken twice: GCC Internals, "Specifying processor pipeline description".
use Rattle.std.specs.Prelude.{◌≡◌, ℕ, zero, suc, ◌<◌, bit_and, List, Some, length, slice_get, slice_index}
use Rattle.std.specs.List.{Contains}
use Rattle.dfa_ways.specs.Ways.{Way}
use Rattle.job_order.specs.declared.job.Job.{Job}
use Rattle.job_order.specs.Jobs.{AreJobs}
use Rattle.job_order.specs.Order.{AreCycles}

-- the units that a way which begins in one cycle takes in another
abbrev pub units_in : ℕ → Way → ℕ → ℕ
units_in zero way cycle = slice_index way cycle
units_in (suc start) way zero = 0
units_in (suc start) way (suc cycle) = units_in start way cycle

-- two ways, from their cycles on, take no unit both in the same cycle
abbrev pub AreApart : ℕ → Way → ℕ → Way → Type 0
AreApart start way other_start other =
    (cycle : ℕ) → bit_and (units_in start way cycle) (units_in other_start other cycle) ≡ 0

-- each job takes units on one of its ways, and no two jobs take one unit in the same cycle
pub record HaveUnits (jobs : List Job) (cycles : List ℕ) : Type 0 where
  pub ways : ℕ → Way
  pub own : (place : ℕ) (job : Job) → slice_get jobs place ≡ Some job → Contains job.ways (ways place)
  pub apart : (one other : ℕ) → one < other → other < length jobs →
      AreApart (slice_index cycles one) (ways one) (slice_index cycles other) (ways other)

-- whatever cycles jobs are given, these hold of them
abbrev pub TakeUnits : Type 0
TakeUnits = (jobs : List Job) (cycles : List ℕ) → AreJobs jobs → AreCycles jobs cycles →
    HaveUnits jobs cycles
