-- Jobs that take units of a pipeline, and their heights: GCC Internals, "Specifying processor pipeline
-- description" and "Passes and Files of the Compiler" (instruction scheduling).
use Rattle.std.specs.Prelude.{ℕ, ◌+◌, ◌<◌, ◌≤◌, ◌==◌, max, List, [], ◌∷◌, Option, Some, None, if◌then◌else◌, length, slice_index_or}
use Rattle.std.specs.List.{AllByRecursion}
use Rattle.std.specs.Option.{option_map_or}
use Rattle.rtx_tree.specs.Limit.{most_cycles, most_latency, most_scheduled}
use Rattle.dfa_ways.specs.Ways.{Way}
use Rattle.job_order.specs.declared.job.Ask.{Ask}
use Rattle.job_order.specs.declared.job.Job.{Job}

-- ---- what is asked of jobs

-- a job that depends on some of those before it, as the one at a place may
pub record IsAsk (k : ℕ) (a : Ask) : Type 0 where
  pub before : a.job < k
  pub light : a.weight ≤ most_latency

abbrev pub IsShort : Way → Type 0
IsShort way = length way ≤ most_cycles

-- a job has a way, and depends on jobs that stand before it alone
pub record IsJob (k : ℕ) (j : Job) : Type 0 where
  pub some : 0 < length j.ways
  pub short : AllByRecursion IsShort j.ways
  pub asks : AllByRecursion (IsAsk k) j.asks

pub record AreJobs (jobs : List Job) : Type 0 where
  pub few : length jobs ≤ most_scheduled
  pub each : (k : ℕ) (d : Job) → k < length jobs → IsJob k (slice_index_or jobs k d)

-- ---- heights

-- the weight with which a job that asks this depends on the one at a place, if it does
abbrev pub weight_on : ℕ → List Ask → Option ℕ
weight_on k [] = None
weight_on k (a ∷ asks) = if a.job == k then Some a.weight else weight_on k asks

-- the greatest sum of weight and height over the jobs that depend on the one at a place; 0 where none
-- does
abbrev pub height_under : ℕ → List Job → List ℕ → ℕ
height_under k (j ∷ js) (h ∷ hs) =
    max (option_map_or (λ weight. weight + h) (weight_on k j.asks) 0) (height_under k js hs)
height_under k _ _ = 0

-- a job's height before those of the jobs behind it
abbrev pub with_height : ℕ → List Job → List ℕ → List ℕ
with_height k js hs = height_under k js hs ∷ hs

-- the heights of jobs, of which the first stands at a place
abbrev pub heights_from : ℕ → List Job → List ℕ
heights_from k [] = []
heights_from k (j ∷ js) = with_height k js (heights_from (k + 1) js)

abbrev pub heights : List Job → List ℕ
heights jobs = heights_from 0 jobs
