-- The cycles of a function, from what the calls gave.
use Rattle.std.proofs.Common.{◌≡◌, ℕ, List, ◌++◌, Ok, Err}
use Rattle.rtx_tree.specs.declared.function.Function.{Function}
use Rattle.run_refusal.specs.declared.refusal.Refusal.{Refusal}
use Rattle.pass_name.specs.declared.road.Road.TheVariants.{Usual}
use Rattle.md_forms.specs.declared.form.Entry.{Entry}
use Rattle.md_dfa.specs.Pipeline.{pipeline_in}
use Rattle.schedule.specs.Schedule.{Scheduled}
use Rattle.schedule.specs.declared.plan.CycleOf.{CycleOf}
use Rattle.func_input.specs.Input.{RefusesWith}
use Rattle.func_input.proofs.Refusing.{refuses_map}
use Rattle.func_after.specs.Each.{EachComes}
use Rattle.func_after.specs.After.{AfterComes}
use Rattle.func_after.specs.declared.compilation.Compilation.{Compilation}
use Rattle.func_text.specs.Recog.{OutputComes}
use Rattle.func_text.specs.Cycles.{lines_of, FunctionComes}

module _ (es : List Entry) (f : Function) where
  -- a pass refused it
  pub after_refuses : (e : Refusal) → RefusesWith e (AfterComes es Usual f) → RefusesWith e (FunctionComes es f)
  after_refuses e r = refuses_map e (AfterComes es Usual f) (FunctionComes es f) (λ e after. FunctionComes.refused e after) r

  module _ (m : Compilation) (g : Function) (cycles : List CycleOf) (after : AfterComes es Usual f (Ok m)) (goes : Scheduled es (pipeline_in es) m.function cycles g) where
    -- an instruction in the new order has no form
    pub form_refuses : (e : Refusal) → RefusesWith e (EachComes (OutputComes es f.name) g.insns) → RefusesWith e (FunctionComes es f)
    form_refuses e r = refuses_map e (EachComes (OutputComes es f.name) g.insns) (FunctionComes es f) (λ e come. FunctionComes.ordered m g cycles (Err e) after goes come) r

    -- or each has one, and the lines were appended
    pub cycles_come : (old new : List ℕ) → (text : List ℕ) × EachComes (OutputComes es f.name) g.insns (Ok text) → new ≡ old ++ lines_of f.name cycles →
        (text : List ℕ) × FunctionComes es f (Ok text) × (new ≡ old ++ text)
    cycles_come old new forms is = (lines_of f.name cycles, FunctionComes.ordered m g cycles (Ok forms.0) after goes forms.1, is)
