-- What holds of instructions whose jobs are placed and come in an order: GCC Internals, "Passes and
-- Files of the Compiler" (instruction scheduling).
use Rattle.std.specs.Prelude.{◌≡◌, ℕ, ◌+◌, ◌<◌, ◌≤◌, List, Some, length, slice_get, slice_index}
use Rattle.std.specs.List.{AllByRecursion}
use Rattle.rtx_tree.specs.Limit.{most_latency, most_scheduled}
use Rattle.rtx_tree.specs.declared.function.Insn.{Insn}
use Rattle.insn_depends.specs.Depends.{dependence}
use Rattle.job_order.specs.Jobs.{IsShort, AreJobs}
use Rattle.job_order.specs.Order.{AreCycles, IsOrder}
use Rattle.law_order.specs.Late.{IsAhead}
use Rattle.region_jobs.specs.declared.taken.Taken.{Taken}
use Rattle.region_jobs.specs.Jobs.{jobs_of}

-- ---- what instructions take

-- there is a way, none is too long, and the latency isn't either
pub record IsTaken (t : Taken) : Type 0 where
  pub some : 0 < length t.ways
  pub short : AllByRecursion IsShort t.ways
  pub light : t.latency ≤ most_latency

-- then there are jobs of so many instructions that can be placed
abbrev pub MakeJobs : Type 0
MakeJobs = (insns : List Insn) (taken : List Taken) → length insns ≤ most_scheduled →
    AllByRecursion IsTaken taken → AreJobs (jobs_of insns taken)

-- ---- what is kept

-- of two instructions the second depends on the first with a weight
pub record Waits (insns : List Insn) (taken : List Taken) (one other weight : ℕ) : Type 0 where
  pub before : one < other
  pub earlier : Insn
  pub later : Insn
  pub at_one : slice_get insns one ≡ Some earlier
  pub at_other : slice_get insns other ≡ Some later
  pub takes : Taken
  pub takes_other : Taken
  pub of_one : slice_get taken one ≡ Some takes
  pub of_other : slice_get taken other ≡ Some takes_other
  pub depends : dependence takes.latency earlier later ≡ Some weight

-- as many cycles lie between them
abbrev pub AreSpaced : List Insn → List Taken → List ℕ → Type 0
AreSpaced insns taken cycles = (one other weight : ℕ) → Waits insns taken one other weight →
    slice_index cycles one + weight ≤ slice_index cycles other

-- the first comes before the second
abbrev pub AreAhead : List Insn → List Taken → List ℕ → Type 0
AreAhead insns taken order = (one other weight : ℕ) → Waits insns taken one other weight →
    IsAhead order one other

-- whatever cycles the jobs of instructions are given, and in whatever order they then come
abbrev pub KeepDependences : Type 0
KeepDependences = (insns : List Insn) (taken : List Taken) (cycles order : List ℕ) →
    AreJobs (jobs_of insns taken) → AreCycles (jobs_of insns taken) cycles → IsOrder cycles order →
    AreSpaced insns taken cycles × AreAhead insns taken order
