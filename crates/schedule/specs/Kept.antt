-- What holds of the instructions of a region that are put in order: GCC Internals, "Passes and Files of
-- the Compiler" (instruction scheduling) and "Specifying processor pipeline description".
use Rattle.std.specs.Prelude.{◌≤◌, List, length}
use Rattle.rtx_tree.specs.Limit.{most_scheduled}
use Rattle.rtx_tree.specs.declared.function.Insn.{Insn}
use Rattle.law_order.specs.Apart.{HaveUnits}
use Rattle.region_jobs.specs.Jobs.{jobs_of}
use Rattle.region_jobs.specs.Kept.{AreSpaced, AreAhead}
use Rattle.md_forms.specs.declared.form.Entry.{Entry}
use Rattle.md_dfa.specs.Lawful.{AreLawful}
use Rattle.md_dfa.specs.declared.pipeline.Pipeline.{Pipeline}
use Rattle.schedule.specs.declared.plan.Plan.{Plan}
use Rattle.schedule.specs.Schedule.{IsPlan}

-- Where one depends on another the weight of that lies between their cycles, and it comes behind the
-- other. No unit is taken twice in a cycle.
pub record IsKept (forms : List Entry) (pipeline : Pipeline) (insns : List Insn) (p : Plan) (is : IsPlan forms pipeline insns p) :
    Type 0 where
  pub spaced : AreSpaced insns is.taken is.cycles
  pub ahead : AreAhead insns is.taken is.order
  pub units : HaveUnits (jobs_of insns is.taken) is.cycles

-- so it is in each region
abbrev pub PlansKeep : Type 0
PlansKeep = (forms : List Entry) (pipeline : Pipeline) (insns : List Insn) (p : Plan) →
    AreLawful pipeline → length insns ≤ most_scheduled →
    (is : IsPlan forms pipeline insns p) → IsKept forms pipeline insns p is
