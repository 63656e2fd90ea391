-- What stands in the place of a task. These definitions serve the contracts of private functions
-- alone.
use Rattle.std.specs.Prelude.{◌≡◌, ℕ, suc, ◌+◌, ◌*◌, ◌<◌, ℤ, List, [], ◌∷◌, ◌++◌, length, sum, reverse, if◌then◌else◌, Option, Some, None, option_and_then}
use Rattle.std.specs.List.{AllByRecursion, sum_by}
use Rattle.rtx_tree.specs.declared.code.Mode.{Mode}
use Rattle.rtx_tree.specs.declared.tree.Rtx.{Rtx}
use Rattle.c_words.specs.declared.head.Call.TheVariants as call
use Rattle.c_words.specs.declared.head.CondHead.{CondHead}
use Rattle.c_words.specs.declared.head.CondHead.TheVariants as head
use Rattle.c_cond.specs.declared.tree.Tree.{Tree}
use Rattle.c_cond.specs.declared.tree.Tree.TheOpen.{Tree-F}
use Rattle.c_cond.specs.declared.tree.Tree.TheFolds.{fold-Tree}
use Rattle.c_eval.specs.Numbers.{is_zero}
use Rattle.c_eval.specs.declared.facts.Facts.{Facts}
use Rattle.md_recog.specs.Match.{Accepts}
use Rattle.gen_emit.specs.declared.draft.Draft.{Draft}
use Rattle.gen_emit.specs.declared.draft.Ended.{Ended}
use Rattle.gen_emit.specs.declared.draft.Ended.TheVariants.{Through, Done}
use Rattle.gen_emit.specs.declared.state.Op.{Op}
use Rattle.gen_emit.specs.declared.state.Op.TheVariants as op
use Rattle.gen_emit.specs.declared.state.Step.{Step}
use Rattle.gen_emit.specs.declared.state.Step.TheVariants as step
use Rattle.gen_emit.specs.declared.state.State.{State}
use Rattle.gen_emit.specs.declared.layout.Parts.{Parts}
use Rattle.gen_emit.specs.declared.layout.Parts.TheVariants as parts
use Rattle.gen_emit.specs.declared.plan.Task.{Task}
use Rattle.gen_emit.specs.declared.plan.Task.TheVariants as task
use Rattle.gen_emit.specs.declared.plan.Plan.{Plan}
use Rattle.gen_emit.specs.declared.plan.Plan.TheVariants as plan
use Rattle.gen_emit.specs.Values.{extended}
use Rattle.gen_emit.specs.Statements.{and_then, meaning, number_in, mode_of}
use Rattle.gen_emit.specs.machine.Layout.{tree_at, IsEnd}
use Rattle.gen_emit.specs.machine.Tasks.{Going, given, do_op, stepped, values_of}

-- ---- what comes of tasks

abbrev pub do_task : Facts → Accepts → List CondHead → Task → List Rtx → Draft → Going →
    Option Ended
do_task f a heads (task.Run end) values d next =
    option_and_then (and_then (next values)) ((meaning f a (tree_at heads end)).run d)
do_task f a heads (task.Make end) values d next =
    given next values ((meaning f a (tree_at heads end)).value d)
do_task f a heads (task.Do o) values d next = do_op f.new_pseudos o values d next

-- what comes of tasks, the next of which stands first
abbrev pub do_all : Facts → Accepts → List CondHead → List Task → Going
do_all f a heads [] values d = Some (Through d)
do_all f a heads (t ∷ tasks) values d = do_task f a heads t values d (do_all f a heads tasks)

-- what comes of tasks that are kept with the next at the end, and a state
abbrev pub outcome : Facts → Accepts → List CondHead → List Task → State → Option Ended
outcome f a heads tasks s = do_all f a heads (reverse tasks) (values_of s) s.draft

-- the task of running heads, where there are any
abbrev pub first_tasks : List CondHead → List Task
first_tasks [] = []
first_tasks (h ∷ hs) = task.Run (length (h ∷ hs)) ∷ []

-- nothing has been made
abbrev pub first_state : Draft → State
first_state d = record { values = []; draft = d }

-- ---- plans

-- the tasks of a plan, in order
abbrev pub tasks_of : Plan → List Task
tasks_of (plan.One a) = a ∷ []
tasks_of (plan.Two a b) = a ∷ b ∷ []
tasks_of (plan.Three a b c) = a ∷ b ∷ c ∷ []
tasks_of _ = []

-- how the step ends that follows a plan
abbrev pub step_of : Plan → Step
step_of plan.Fail = step.Fail
step_of plan.Done = step.Done
step_of _ = step.Next

-- the tasks with new ones, which are made the next
abbrev pub with_tasks : List Task → List Task → List Task
with_tasks new tasks = tasks ++ reverse new

abbrev pub constant : Option ℤ → Plan
constant None = plan.Fail
constant (Some n) = plan.One (task.Do (op.Constant n))

abbrev pub constant_in : Option ℤ → Option Mode → Plan
constant_in (Some n) (Some m) = plan.One (task.Do (op.Constant (extended m n)))
constant_in _ _ = plan.Fail

abbrev pub fresh : Option Mode → Plan
fresh None = plan.Fail
fresh (Some m) = plan.One (task.Do (op.Fresh m))

abbrev pub forced : Option Mode → ℕ → Plan
forced None value = plan.Fail
forced (Some m) value = plan.Two (task.Make value) (task.Do (op.Force m))

abbrev pub lowered : Option Mode → ℕ → Plan
lowered None value = plan.Fail
lowered (Some m) value = plan.Two (task.Make value) (task.Do (op.LowPart m))

abbrev pub chosen : Option ℤ → Plan → Plan → Plan
chosen None first second = plan.Fail
chosen (Some n) first second = if is_zero n then second else first

-- the plan of a statement, by its head and its parts
abbrev pub plan_to_run : Facts → Accepts → List CondHead → Draft → CondHead → Parts → Plan
plan_to_run f a heads d head.Nothing parts.None = plan.Nothing
plan_to_run f a heads d head.Done parts.None = plan.Done
plan_to_run f a heads d (head.Assign k) (parts.One value) =
    plan.Two (task.Make value) (task.Do (op.Assign k))
plan_to_run f a heads d (head.Call call.EmitMove) (parts.Two target source) =
    plan.Three (task.Make target) (task.Make source) (task.Do op.Move)
plan_to_run f a heads d head.Then (parts.Two first rest) = plan.Two (task.Run first) (task.Run rest)
plan_to_run f a heads d head.If (parts.Two test body) =
    chosen (number_in f a (tree_at heads test) d) (plan.One (task.Run body)) plan.Nothing
plan_to_run f a heads d head.IfElse (parts.Three test body other) = chosen (number_in f a (tree_at heads test) d) (plan.One (task.Run body)) (plan.One (task.Run other))
plan_to_run f a heads d h p = plan.Fail

-- the plan of a value
abbrev pub plan_to_make : Facts → Accepts → List CondHead → Draft → CondHead → Parts → Plan
plan_to_make f a heads d (head.Operand k) parts.None = plan.One (task.Do (op.Copy k))
plan_to_make f a heads d (head.Call call.GenInt) (parts.One number) =
    constant (number_in f a (tree_at heads number) d)
plan_to_make f a heads d (head.Call call.GenIntMode) (parts.Two number mode) =
    constant_in (number_in f a (tree_at heads number) d) (mode_of (tree_at heads mode))
plan_to_make f a heads d (head.Call call.GenReg) (parts.One mode) =
    fresh (mode_of (tree_at heads mode))
plan_to_make f a heads d (head.Call call.ForceReg) (parts.Two mode value) =
    forced (mode_of (tree_at heads mode)) value
plan_to_make f a heads d (head.Call call.GenLowpart) (parts.Two mode value) =
    lowered (mode_of (tree_at heads mode)) value
plan_to_make f a heads d h p = plan.Fail

-- ---- how much is to be done

abbrev pub size_step : Tree-F ℕ → ℕ
size_step x = suc (sum x.parts)

-- the number of a tree's heads
unfoldable pub size : Tree → ℕ
size = fold-Tree ℕ size_step

abbrev pub weight_of : List CondHead → Task → ℕ
weight_of heads (task.Run end) = 2 * size (tree_at heads end)
weight_of heads (task.Make end) = 2 * size (tree_at heads end)
weight_of heads (task.Do o) = 1

abbrev pub weight : List CondHead → List Task → ℕ
weight heads tasks = sum_by (weight_of heads) tasks

-- ---- tasks and plans

-- the tree of a task ends among the heads
abbrev pub IsTask : List CondHead → Task → Type 0
IsTask heads (task.Run end) = IsEnd heads end
IsTask heads (task.Make end) = IsEnd heads end
IsTask heads (task.Do o) = Unit {0}

abbrev pub AreTasks : List CondHead → List Task → Type 0
AreTasks heads tasks = AllByRecursion (IsTask heads) tasks

-- A plan for a task: the same comes of both, whatever is done behind them, and the plan is less.
pub record IsPlan (f : Facts) (a : Accepts) (heads : List CondHead) (d : Draft) (t : Task) (p : Plan) : Type 0 where
  pub comes : (rest : List Task) (values : List Rtx) → do_all f a heads (t ∷ rest) values d ≡ stepped (step_of p) (do_all f a heads (tasks_of p ++ rest) values d) d
  pub tasks : AreTasks heads (tasks_of p)
  pub less : weight heads (tasks_of p) < weight_of heads t

-- where one step goes on, less is left to be done
abbrev pub IsLess : Step → ℕ → ℕ → Type 0
IsLess step.Next after before = after < before
IsLess _ after before = Unit {0}

-- A step takes a task and leaves tasks and a state: the same comes of both, and less is left.
pub record Steps (f : Facts) (a : Accepts) (heads : List CondHead) (t : Task) (before : List Task) (state : State) (s : Step) (after : List Task) (left : State) : Type 0 where
  pub comes : outcome f a heads (before ++ t ∷ []) state ≡ stepped s (outcome f a heads after left) left.draft
  pub tasks : AreTasks heads after
  pub less : IsLess s (weight heads after) (weight heads (before ++ t ∷ []))
