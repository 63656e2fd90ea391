-- How large the numbers of jobs become.
use Rattle.std.specs.Prelude.{◌≡◌, ℕ, suc, ◌+◌, ◌*◌, ◌<◌, ◌≤◌, Bool, true, false, List, [], ◌∷◌, length, slice_index}
use Rattle.rtx_tree.specs.Limit.{most_cycles, most_latency, most_scheduled}
use Rattle.job_order.specs.declared.job.Job.{Job}
use Rattle.job_order.specs.declared.placed.Placed.{Placed}

-- a height is no greater than the latencies of the jobs behind
abbrev pub AreLow : List ℕ → Type 0
AreLow heights = (k : ℕ) → k < length heights →
    slice_index heights k + most_latency * k ≤ most_latency * length heights

-- how far a job may go behind the others
abbrev pub most_stride : ℕ
most_stride = most_latency + most_cycles

-- how many marks are not set
abbrev pub unmarked : List Bool → ℕ
unmarked [] = 0
unmarked (true ∷ marks) = unmarked marks
unmarked (false ∷ marks) = suc (unmarked marks)

abbrev pub unplaced : Placed → ℕ
unplaced s = unmarked s.are_placed

-- a list has a cycle and a mark for each job, and no cycle is further than those placed may go
pub record HasRoom (jobs : List Job) (s : Placed) : Type 0 where
  pub cycles : length s.cycles ≡ length jobs
  pub marks : length s.are_placed ≡ length jobs
  pub near : (k : ℕ) → k < length s.cycles →
      slice_index s.cycles k + most_stride * unplaced s ≤ most_stride * length jobs
  pub taken : length s.taken + most_stride * unplaced s ≤ most_stride * length jobs

-- a cycle is no further than all jobs may go
abbrev pub AreNear : List ℕ → Type 0
AreNear cycles = (k : ℕ) → k < length cycles → slice_index cycles k ≤ most_stride * most_scheduled
