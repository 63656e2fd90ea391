-- Instructions in the order in which a pipeline takes them: GCC Internals, "Passes and Files of the
-- Compiler" (instruction scheduling) and "Specifying processor pipeline description".
use Rattle.std.specs.Prelude.{◌≡◌, ℕ, ◌+◌, ◌<◌, ◌≤◌, List, [], ◌∷◌, ◌++◌, drop, length}
use Rattle.std.specs.List.{AllZip}
use Rattle.rtx_tree.specs.declared.function.Insn.{Insn}
use Rattle.rtx_tree.specs.declared.function.Function.{Function}
use Rattle.new_insns.specs.Replaced.{window, replaced}
use Rattle.law_window_put.specs.Put.{IsPut}
use Rattle.job_order.specs.Order.{AreCycles, IsOrder}
use Rattle.law_order.specs.Ordered.{in_order}
use Rattle.region_jobs.specs.declared.taken.Taken.{Taken}
use Rattle.region_jobs.specs.Region.{region_length}
use Rattle.region_jobs.specs.Jobs.{jobs_of}
use Rattle.md_forms.specs.declared.form.Entry.{Entry}
use Rattle.md_dfa.specs.declared.pipeline.Pipeline.{Pipeline}
use Rattle.pipe_uses.specs.Takes.{Takes}
use Rattle.schedule.specs.declared.plan.CycleOf.{CycleOf}
use Rattle.schedule.specs.declared.plan.Plan.{Plan}

-- ---- the instructions of a region

-- the cycle of each instruction
abbrev pub with_cycles : List Insn → List ℕ → List CycleOf
with_cycles (i ∷ insns) (cycle ∷ cycles) =
    record { uid = i.uid; cycle = cycle } ∷ with_cycles insns cycles
with_cycles _ _ = []

-- some instructions in the order in which a pipeline takes them, and the cycle of each
pub record IsPlan (forms : List Entry) (pipeline : Pipeline) (insns : List Insn) (p : Plan) :
    Type 0 where
  pub taken : List Taken
  pub cycles : List ℕ
  pub order : List ℕ
  pub takes : AllZip (Takes forms pipeline) insns taken
  pub placed : AreCycles (jobs_of insns taken) cycles
  pub ordered : IsOrder cycles order
  pub puts : p.insns ≡ in_order insns order
  pub tells : p.cycles ≡ in_order (with_cycles insns cycles) order

-- ---- regions

-- where the region ends that begins at a place
abbrev pub region_end : Function → ℕ → ℕ
region_end f place = place + region_length (drop place f.insns)

-- the region that begins at a place in its new order
pub record IsPlanned (forms : List Entry) (pipeline : Pipeline) (f : Function) (place : ℕ) (p : Plan) :
    Type 0 where
  pub some : place < region_end f place
  pub plan : IsPlan forms pipeline (window f place (region_end f place)) p

-- it is equated with the order in which it stands
abbrev pub GoesIn : Function → ℕ → Plan → Type 0
GoesIn f place p = IsPut f place (region_end f place) p.insns

-- the function with the region in its new order
abbrev pub put_in : Function → ℕ → Plan → Function
put_in f place p = replaced f place (region_end f place) p.insns

-- ---- functions

-- The regions from a place on are put in order, one behind the other, where they are equated with
-- their new order. The cycles of those that are come in the new order.
pub data ScheduledFrom (forms : List Entry) (pipeline : Pipeline) : ℕ → Function → List CycleOf → Function → Type 0 where
  done : (place : ℕ) (f : Function) → length f.insns ≤ place →
      ScheduledFrom forms pipeline place f [] f
  passes : (place : ℕ) (f g : Function) (cycles : List CycleOf) → place < length f.insns →
      region_end f place ≡ place → ScheduledFrom forms pipeline (place + 1) f cycles g →
      ScheduledFrom forms pipeline place f cycles g
  stays : (place : ℕ) (f g : Function) (cycles : List CycleOf) (p : Plan) →
      IsPlanned forms pipeline f place p → (GoesIn f place p → ⊥) →
      ScheduledFrom forms pipeline (region_end f place) f cycles g →
      ScheduledFrom forms pipeline place f cycles g
  goes : (place : ℕ) (f g : Function) (cycles : List CycleOf) (p : Plan) →
      IsPlanned forms pipeline f place p → GoesIn f place p →
      ScheduledFrom forms pipeline (region_end f place) (put_in f place p) cycles g →
      ScheduledFrom forms pipeline place f (p.cycles ++ cycles) g

-- all regions
abbrev pub Scheduled : List Entry → Pipeline → Function → List CycleOf → Function → Type 0
Scheduled forms pipeline = ScheduledFrom forms pipeline 0
