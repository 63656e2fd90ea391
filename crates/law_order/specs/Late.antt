-- That jobs keep what they ask of each other: GCC Internals, "Passes and Files of the Compiler"
-- (instruction scheduling).
use Rattle.std.specs.Prelude.{◌≡◌, ℕ, ◌+◌, ◌<◌, ◌≤◌, List, Some, length, slice_get, slice_index}
use Rattle.std.specs.List.{AllByRecursion}
use Rattle.job_order.specs.declared.job.Ask.{Ask}
use Rattle.job_order.specs.declared.job.Job.{Job}
use Rattle.job_order.specs.Jobs.{AreJobs}
use Rattle.job_order.specs.Order.{AreCycles, IsOrder}

-- ---- cycles

-- between a job at a place and one that it depends on lie as many cycles as it asks
abbrev pub IsLate : List ℕ → ℕ → Ask → Type 0
IsLate cycles place ask = slice_index cycles ask.job + ask.weight ≤ slice_index cycles place

abbrev pub AreLate : List Job → List ℕ → Type 0
AreLate jobs cycles = (place : ℕ) (job : Job) → slice_get jobs place ≡ Some job →
    AllByRecursion (IsLate cycles place) job.asks

-- there is a cycle for each job, and they are late enough
pub record HaveCycles (jobs : List Job) (cycles : List ℕ) : Type 0 where
  pub all : length cycles ≡ length jobs
  pub late : AreLate jobs cycles

-- whatever cycles jobs are given, these hold of them
abbrev pub ComeLate : Type 0
ComeLate = (jobs : List Job) (cycles : List ℕ) → AreJobs jobs → AreCycles jobs cycles →
    HaveCycles jobs cycles

-- ---- the order

-- one job comes before another
abbrev pub IsAhead : List ℕ → ℕ → ℕ → Type 0
IsAhead order one other = (i j : ℕ) → i < length order → j < length order →
    slice_index order i ≡ one → slice_index order j ≡ other → i < j

-- each job comes behind each that it depends on
abbrev pub AreBehind : List Job → List ℕ → Type 0
AreBehind jobs order = (place : ℕ) (job : Job) → slice_get jobs place ≡ Some job →
    AllByRecursion (λ (ask : Ask). IsAhead order ask.job place) job.asks

-- in whatever order jobs come by the cycles that they are given, this holds of it
abbrev pub ComeBehind : Type 0
ComeBehind = (jobs : List Job) (cycles order : List ℕ) → AreJobs jobs → AreCycles jobs cycles →
    IsOrder cycles order → AreBehind jobs order
