-- The jobs of instructions: GCC Internals, "Specifying processor pipeline description" and "Passes and
-- Files of the Compiler" (instruction scheduling).
use Rattle.std.specs.Prelude.{ℕ, ◌+◌, List, [], ◌∷◌, ◌++◌, Option, Some, None}
use Rattle.rtx_tree.specs.declared.function.Insn.{Insn}
use Rattle.dfa_ways.specs.Ways.{Ways}
use Rattle.job_order.specs.declared.job.Ask.{Ask}
use Rattle.job_order.specs.declared.job.Job.{Job}
use Rattle.insn_depends.specs.Depends.{dependence}
use Rattle.region_jobs.specs.declared.taken.Taken.{Taken}

-- what is asked of the instruction at a place on which another depends with a weight
abbrev pub ask_for : ℕ → Option ℕ → List Ask
ask_for place None = []
ask_for place (Some weight) = record { job = place; weight = weight } ∷ []

-- what an instruction asks of some in front of it, of which the first stands at a place, and which
-- have latencies
abbrev pub asks_from : ℕ → List Insn → List ℕ → Insn → List Ask
asks_from place (i ∷ insns) (latency ∷ latencies) later =
    ask_for place (dependence latency i later) ++ asks_from (place + 1) insns latencies later
asks_from place _ _ later = []

-- the job of an instruction behind some that have latencies
abbrev pub job_of : List Insn → List ℕ → Insn → Ways → Job
job_of before latencies i ways = record { ways = ways; asks = asks_from 0 before latencies i }

-- the jobs of instructions behind others, by what they take
abbrev pub jobs_behind : List Insn → List ℕ → List Insn → List Taken → List Job
jobs_behind before latencies (i ∷ insns) (t ∷ taken) =
    job_of before latencies i t.ways
    ∷ jobs_behind (before ++ i ∷ []) (latencies ++ t.latency ∷ []) insns taken
jobs_behind before latencies _ _ = []

-- those of the instructions of a region
abbrev pub jobs_of : List Insn → List Taken → List Job
jobs_of insns taken = jobs_behind [] [] insns taken
