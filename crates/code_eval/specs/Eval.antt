-- A function and its code, tried from one start in one world.
use Rattle.std.specs.Prelude.{◌≡◌, ◌≢◌, ◌≤◌, ℕ, ◌+◌, ◌*◌, List, ◌++◌, codes}
use Rattle.rtx_tree.specs.declared.function.Function.{Function}
use Rattle.rv_text.specs.declared.line.CodeItem.{CodeItem}
use Rattle.func_run.specs.Run as rtl
use Rattle.func_run.specs.declared.outcome.Outcome.{Outcome}
use Rattle.func_run.specs.declared.outcome.Outcome.TheVariants as outcomes
use Rattle.rv_line.specs.Run as code
use Rattle.rv_line.specs.declared.outcome.CodeOutcome.{CodeOutcome}
use Rattle.same_behaviour.specs.Lawful.{IsLawful, IsLawfulWorld, seen_by_rtl}
use Rattle.same_behaviour.specs.Same.{SameOutcome, Same}
use Rattle.code_eval.specs.Start.{stack_room, rtl_start, code_start}
use Rattle.code_eval.specs.World.{world_of}
use Rattle.code_eval.specs.Ending.{rtl_ending, code_ending, ending_line}

-- how many lines of code are run where a function is run for so many steps, and how many calls have
-- a reply
unfoldable pub lines_for : ℕ → ℕ
lines_for steps = 64 * steps + 1000

-- the outcome of the function after so many steps, from the start with these values of a0 to a7
abbrev pub rtl_outcome : Function → ℕ → List ℕ → Outcome
rtl_outcome f steps args = rtl.run_of f (rtl_start f args) (world_of f (lines_for steps)) steps

-- the outcome of its lines and labels after as many lines as belong to the steps
abbrev pub code_outcome : Function → List CodeItem → ℕ → List ℕ → CodeOutcome
code_outcome f items steps args =
    code.run items (code_start f args) (world_of f (lines_for steps)) (lines_for steps)

-- both outcomes, a line for each
abbrev pub eval_text : Function → List CodeItem → ℕ → List ℕ → List ℕ
eval_text f items steps args =
    ending_line (codes "rtl") (rtl_ending (rtl_outcome f steps args)) ++ ending_line (codes "code") (code_ending f.result (code_outcome f items steps args))

-- ---- that the trial is a fair one

-- The trial is one of which same behaviour speaks: the start is lawful, all of the stack being the
-- frame, where the locals fit in it; the world is lawful; and the function starts with what a
-- function sees of the start of its code.
pub record IsFair (f : Function) (steps : ℕ) (args : List ℕ) : Type 0 where
  pub start : f.locals ≤ stack_room → IsLawful stack_room f.locals (code_start f args)
  pub world : IsLawfulWorld (code_start f args) (world_of f (lines_for steps))
  pub seen : rtl_start f args ≡ seen_by_rtl stack_room f.locals (code_start f args)

-- the jumps and calls that the function takes in so many steps
abbrev pub taken : Function → ℕ → List ℕ → ℕ
taken f steps args = rtl.taken f (rtl_start f args) (world_of f (lines_for steps)) steps

-- where the outcome of the function has a value, its lines and labels come to the same one from
-- their start
abbrev pub ComesToSame : Function → List CodeItem → ℕ → List ℕ → Type 0
ComesToSame f items steps args = rtl_outcome f steps args ≢ outcomes.Undefined →
    (k : ℕ) × (taken f steps args ≤ k) ×
    SameOutcome f.result (code_start f args) (rtl_outcome f steps args)
    (code.run items (code_start f args) (world_of f (lines_for steps)) k)

-- the outcomes agree where the lines have the behaviour of the function, whose frame fits in the
-- stack
abbrev pub AgreeAsSame : Function → List CodeItem → ℕ → List ℕ → Type 0
AgreeAsSame f items steps args =
    (least : ℕ) → Same least f items → least ≤ stack_room → f.locals ≤ stack_room →
    ComesToSame f items steps args
