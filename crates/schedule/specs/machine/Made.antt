-- What the steps of the pass make.
use Rattle.std.specs.Prelude.{◌≡◌, ◌⊎◌, ℕ, List, ◌++◌}
use Rattle.std.specs.List.{AllZip}
use Rattle.rtx_tree.specs.declared.function.Insn.{Insn}
use Rattle.rtx_tree.specs.declared.function.Function.{Function}
use Rattle.new_insns.specs.Replaced.{replaced}
use Rattle.law_window_put.specs.Put.{IsPut}
use Rattle.job_order.specs.declared.job.Job.{Job}
use Rattle.region_jobs.specs.declared.taken.Taken.{Taken}
use Rattle.region_jobs.specs.Jobs.{jobs_of}
use Rattle.md_forms.specs.declared.form.Entry.{Entry}
use Rattle.md_dfa.specs.declared.pipeline.Pipeline.{Pipeline}
use Rattle.pipe_uses.specs.Takes.{Takes}
use Rattle.schedule.specs.declared.plan.CycleOf.{CycleOf}
use Rattle.schedule.specs.declared.plan.Plan.{Plan}

-- jobs are those of some instructions
pub record AreJobsOf (forms : List Entry) (pipeline : Pipeline) (insns : List Insn) (jobs : List Job) :
    Type 0 where
  pub taken : List Taken
  pub takes : AllZip (Takes forms pipeline) insns taken
  pub jobs_are : jobs ≡ jobs_of insns taken

-- instructions stand in a window's place, and their cycles come behind others
pub record Went (f : Function) (place end : ℕ) (p : Plan) (before : List CycleOf) (g : Function) (now : List CycleOf) :
    Type 0 where
  pub put : IsPut f place end p.insns
  pub function : g ≡ replaced f place end p.insns
  pub cycles : now ≡ before ++ p.cycles

-- the window is not equated with them, and all is as it was
pub record Stayed (f : Function) (place end : ℕ) (p : Plan) (before : List CycleOf) (g : Function) (now : List CycleOf) :
    Type 0 where
  pub other : IsPut f place end p.insns → ⊥
  pub function : g ≡ f
  pub cycles : now ≡ before

abbrev pub IsDone : Function → ℕ → ℕ → Plan → List CycleOf → Function → List CycleOf → Type 0
IsDone f place end p before g now = Went f place end p before g now ⊎ Stayed f place end p before g now
