-- What `cycles` tells of functions: GCC Internals, "Passes and Files of the Compiler" (instruction
-- scheduling) and "Specifying processor pipeline description". The lines are this project's own.
use Rattle.std.specs.Prelude.{ℕ, List, [], ◌∷◌, ◌++◌, Ok, Err}
use Rattle.std.specs.List.{flat_map}
use Rattle.std.specs.Fmt.{decimal}
use Rattle.rtx_tree.specs.declared.function.Function.{Function}
use Rattle.run_refusal.specs.declared.refusal.Refusal.{Refusal}
use Rattle.pass_name.specs.declared.road.Road.TheVariants.{Usual}
use Rattle.md_forms.specs.declared.form.Entry.{Entry}
use Rattle.md_dfa.specs.Pipeline.{pipeline_in}
use Rattle.schedule.specs.Schedule.{Scheduled}
use Rattle.schedule.specs.declared.plan.CycleOf.{CycleOf}
use Rattle.func_input.specs.Outcome.{Outcome}
use Rattle.func_after.specs.Each.{EachComes}
use Rattle.func_after.specs.After.{AfterComes}
use Rattle.func_after.specs.declared.compilation.Compilation.{Compilation}
use Rattle.func_text.specs.Recog.{OutputComes}

-- ---- lines

-- function, uid and cycle
abbrev pub line_of : List ℕ → CycleOf → List ℕ
line_of function c =
    function ++ (32 ∷ (decimal c.uid ++ (32 ∷ (decimal c.cycle ++ 10 ∷ []))))

-- a line for each of some instructions, in order
abbrev pub lines_of : List ℕ → List CycleOf → List ℕ
lines_of function cycles = flat_map (line_of function) cycles

-- ---- what functions come to

-- a text where others come, and else what refuses them
abbrev pub where_comes : List ℕ → Outcome → Outcome
where_comes text (Ok other) = Ok text
where_comes text (Err e) = Err e

-- A function: what a pass refuses; or else, with its instructions in the order in which the
-- description's pipeline takes them, the first of them that has no form at output, or the cycles of
-- those in the regions that took their new order.
pub data FunctionComes (forms : List Entry) (f : Function) : Outcome → Type 0 where
  refused : (e : Refusal) → AfterComes forms Usual f (Err e) → FunctionComes forms f (Err e)
  ordered : (m : Compilation) (g : Function) (cycles : List CycleOf) (outcome : Outcome) →
      AfterComes forms Usual f (Ok m) →
      Scheduled forms (pipeline_in forms) m.function cycles g →
      EachComes (OutputComes forms f.name) g.insns outcome →
      FunctionComes forms f (where_comes (lines_of f.name cycles) outcome)

-- some functions, one behind the other
abbrev pub FunctionsCome : List Entry → List Function → Outcome → Type 0
FunctionsCome forms = EachComes (FunctionComes forms)
