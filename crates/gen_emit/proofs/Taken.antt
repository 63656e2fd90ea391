-- Steps from tasks to tasks.
use Rattle.std.proofs.Common.{◌≡◌, ℕ, ◌+◌, ◌<◌, List, [], ◌∷◌, ◌++◌, length, Option, Some, None, refl, sym, ap, subst, ◌∙◌, arith}
use Rattle.std.specs.Prelude.{reverse, option_and_then, Result, Ok, Err, IfOk, OnOk}
use Rattle.std.specs.List.{AllByRecursion}
use Rattle.std.proofs.lemmas.List.{reverse-append, take_all}
use Rattle.std.proofs.lemmas.List.Sums.{sum_by-append}
use Rattle.c_words.specs.declared.head.CondHead.{CondHead}
use Rattle.c_words.specs.declared.head.CondHead.TheVariants as head
use Rattle.rtx_tree.specs.declared.tree.Rtx.{Rtx}
use Rattle.c_cond.specs.declared.tree.Tree.{Tree}
use Rattle.c_cond.specs.Tree.{grown, first_or_nothing, tree_of}
use Rattle.c_eval.specs.declared.facts.Facts.{Facts}
use Rattle.md_recog.specs.Match.{Accepts}
use Rattle.gen_emit.specs.declared.draft.Draft.{Draft}
use Rattle.gen_emit.specs.declared.draft.Ended.{Ended}
use Rattle.gen_emit.specs.declared.draft.Ended.TheVariants.{Through, Done}
use Rattle.gen_emit.specs.declared.state.Op.{Op}
use Rattle.gen_emit.specs.declared.state.State.{State}
use Rattle.gen_emit.specs.declared.state.Step.{Step}
use Rattle.gen_emit.specs.declared.state.Step.TheVariants as step
use Rattle.gen_emit.specs.declared.plan.Task.{Task}
use Rattle.gen_emit.specs.declared.plan.Task.TheVariants as task
use Rattle.gen_emit.specs.declared.plan.Plan.{Plan}
use Rattle.gen_emit.specs.declared.plan.Plan.TheVariants as plan
use Rattle.gen_emit.specs.Statements.{Meaning, meaning, and_then}
use Rattle.gen_emit.specs.machine.Layout.{tree_at}
use Rattle.gen_emit.specs.machine.Tasks.{Does, stepped, values_of}
use Rattle.gen_emit.specs.machine.Plans.{do_all, outcome, tasks_of, step_of, with_tasks, weight, weight_of, IsTask, AreTasks, IsPlan, IsLess, Steps, first_tasks, first_state}
use Rattle.gen_emit.proofs.Meanings.{meaning_node}

-- ---- lists of tasks

all_joined : (heads : List CondHead) (xs ys : List Task) → AreTasks heads xs → AreTasks heads ys → AreTasks heads (xs ++ ys)
all_joined heads [] ys all more = more
all_joined heads (x ∷ xs) ys all more = (all.0, all_joined heads xs ys all.1 more)

weight_joined : (heads : List CondHead) (xs ys : List Task) → weight heads (xs ++ ys) ≡ weight heads xs + weight heads ys
weight_joined heads xs ys = sum_by-append (weight_of heads) xs ys

-- of the tasks of a plan in the other order
turned_all : (heads : List CondHead) (p : Plan) → AreTasks heads (tasks_of p) → AreTasks heads (reverse (tasks_of p))
turned_all heads plan.Fail all = tt
turned_all heads plan.Done all = tt
turned_all heads plan.Nothing all = tt
turned_all heads (plan.One x) all = all
turned_all heads (plan.Two x y) all = (all.1.0, (all.0, tt))
turned_all heads (plan.Three x y z) all = (all.1.1.0, (all.1.0, (all.0, tt)))

turned_weight : (heads : List CondHead) (p : Plan) → weight heads (reverse (tasks_of p)) ≡ weight heads (tasks_of p)
turned_weight heads plan.Fail = refl
turned_weight heads plan.Done = refl
turned_weight heads plan.Nothing = refl
turned_weight heads (plan.One x) = refl
turned_weight heads (plan.Two x y) = omega arith
turned_weight heads (plan.Three x y z) = omega arith

turned_back : (p : Plan) → reverse (reverse (tasks_of p)) ≡ tasks_of p
turned_back plan.Fail = refl
turned_back plan.Done = refl
turned_back plan.Nothing = refl
turned_back (plan.One x) = refl
turned_back (plan.Two x y) = refl
turned_back (plan.Three x y z) = refl

is_less : (s : Step) (after before : ℕ) → after < before → IsLess s after before
is_less step.Next after before less = less
is_less step.Fail after before less = tt
is_less step.Done after before less = tt

module _ (f : Facts) (a : Accepts) (heads : List CondHead) (t : Task) (tasks : List Task) where
  -- the task is done, and then the others
  next_first : (s : State) → outcome f a heads (tasks ++ t ∷ []) s ≡ do_all f a heads (t ∷ reverse tasks) (values_of s) s.draft
  next_first s = ap (λ (ts : List Task). do_all f a heads ts (values_of s) s.draft) (reverse-append tasks (t ∷ []))

  weight_first : weight heads (tasks ++ t ∷ []) ≡ weight heads tasks + weight_of heads t
  weight_first = omega (arith, weight_joined heads tasks (t ∷ []))

  planned_first : (p : Plan) (s : State) → do_all f a heads (tasks_of p ++ reverse tasks) (values_of s) s.draft ≡ outcome f a heads (with_tasks (tasks_of p) tasks) s
  planned_first p s =
      ap (λ (ts : List Task). do_all f a heads ts (values_of s) s.draft)
      (sym (reverse-append tasks (reverse (tasks_of p)) ∙ ap (λ (ts : List Task). ts ++ reverse tasks) (turned_back p)))

  by_plan : (p : Plan) (s : State) → AreTasks heads tasks → IsPlan f a heads s.draft t p → Steps f a heads t tasks s (step_of p) (with_tasks (tasks_of p) tasks) s
  by_plan p s all is = record {
    comes = next_first s ∙ (is.comes (reverse tasks) (values_of s) ∙ ap (λ (o : Option Ended). stepped (step_of p) o s.draft) (planned_first p s));
    tasks = all_joined heads tasks (reverse (tasks_of p)) all (turned_all heads p is.tasks);
    less = is_less (step_of p) (weight heads (with_tasks (tasks_of p) tasks)) (weight heads (tasks ++ t ∷ []))
        (omega (arith, weight_first, weight_joined heads tasks (reverse (tasks_of p)), turned_weight heads p, is.less));
  }

  pub follows : (p : Plan) (s : State) (st : Step) (after : List Task) → AreTasks heads tasks → IsPlan f a heads s.draft t p → st ≡ step_of p → after ≡ with_tasks (tasks_of p) tasks →
      Steps f a heads t tasks s st after s
  follows p s st after all is same are =
      subst (λ (x : Step). Steps f a heads t tasks s x after s) (sym same)
      (subst (λ (ts : List Task). Steps f a heads t tasks s (step_of p) ts s) (sym are) (by_plan p s all is))

pub does : (f : Facts) (a : Accepts) (heads : List CondHead) (o : Op) (tasks : List Task) (s : State) (st : Step) (left : State) → AreTasks heads tasks → Does f.new_pseudos o s st left →
    Steps f a heads (task.Do o) tasks s st tasks left
does f a heads o tasks s st left all is = record {
  comes = next_first f a heads (task.Do o) tasks s ∙ is (do_all f a heads (reverse tasks));
  tasks = all;
  less = is_less st (weight heads tasks) (weight heads (tasks ++ task.Do o ∷ [])) (omega (arith, weight_first f a heads (task.Do o) tasks));
}

module _ {E : Type 0} (f : Facts) (a : Accepts) (heads : List CondHead) (t other : Task) (tasks : List Task) where
  pub followed : (r : Result Step E) (p : Plan) (s : State) (after : List Task) → AreTasks heads tasks → IsPlan f a heads s.draft other p → t ≡ other →
      IfOk r (λ x. x ≡ step_of p) → OnOk r (after ≡ with_tasks (tasks_of p) tasks) → IfOk r (λ st. Steps f a heads t tasks s st after s)
  followed (Ok st) p s after all is same ends are = follows f a heads t tasks p s st after all (subst (λ (x : Task). IsPlan f a heads s.draft x p) (sym same) is) ends are
  followed (Err e) p s after all is same ends are = tt

  pub applied : (r : Result Step E) (o : Op) (s left : State) (after : List Task) → AreTasks heads tasks → t ≡ task.Do o → after ≡ tasks → IfOk r (λ st. Does f.new_pseudos o s st left) →
      IfOk r (λ st. Steps f a heads t tasks s st after left)
  applied (Ok st) o s left after all same kept is =
      subst (λ (x : Task). Steps f a heads x tasks s st after left) (sym same)
      (subst (λ (ts : List Task). Steps f a heads (task.Do o) tasks s st ts left) (sym kept) (does f a heads o tasks s st left all is))
  applied (Err e) o s left after all same kept is = tt

-- ---- the tasks of a loop, of which the last is done

pub last_task : (heads : List CondHead) (tasks front : List Task) (t : Task) → tasks ≡ front ++ t ∷ [] → AreTasks heads tasks → IsTask heads t
last_task heads tasks front t are all = last front (subst (AreTasks heads) are all)
  where
    last : (xs : List Task) → AreTasks heads (xs ++ t ∷ []) → IsTask heads t
    last [] all = all.0
    last (x ∷ xs) all = last xs all.1

pub front_tasks : (heads : List CondHead) (tasks front : List Task) (t : Task) → tasks ≡ front ++ t ∷ [] → AreTasks heads tasks → AreTasks heads front
front_tasks heads tasks front t are all = kept front (subst (AreTasks heads) are all)
  where
    kept : (xs : List Task) → AreTasks heads (xs ++ t ∷ []) → AreTasks heads xs
    kept [] all = tt
    kept (x ∷ xs) all = (all.0, kept xs all.1)

module _ (f : Facts) (a : Accepts) (heads : List CondHead) (tasks front : List Task) (t : Task) (s : State) (st : Step) (after : List Task) (left : State) where
  comes_of : tasks ≡ front ++ t ∷ [] → Steps f a heads t front s st after left → stepped st (outcome f a heads after left) left.draft ≡ outcome f a heads tasks s
  comes_of are steps = sym (ap (λ (ts : List Task). outcome f a heads ts s) are ∙ steps.comes)

  stepped_by : (end : Step) → st ≡ end → tasks ≡ front ++ t ∷ [] → Steps f a heads t front s st after left → stepped end (outcome f a heads after left) left.draft ≡ outcome f a heads tasks s
  stepped_by end same are steps = sym (ap (λ (x : Step). stepped x (outcome f a heads after left) left.draft) same) ∙ comes_of are steps

  pub went_on : st ≡ step.Next → tasks ≡ front ++ t ∷ [] → Steps f a heads t front s st after left → outcome f a heads after left ≡ outcome f a heads tasks s
  went_on same are steps = stepped_by step.Next same are steps

  pub failed : st ≡ step.Fail → tasks ≡ front ++ t ∷ [] → Steps f a heads t front s st after left → None ≡ outcome f a heads tasks s
  failed same are steps = stepped_by step.Fail same are steps

  pub was_done : st ≡ step.Done → tasks ≡ front ++ t ∷ [] → Steps f a heads t front s st after left → Some (Done left.draft) ≡ outcome f a heads tasks s
  was_done same are steps = stepped_by step.Done same are steps

  pub lessened : st ≡ step.Next → tasks ≡ front ++ t ∷ [] → Steps f a heads t front s st after left → weight heads after < weight heads tasks
  lessened same are steps =
      subst (λ (ts : List Task). weight heads after < weight heads ts) (sym are)
      (subst (λ (x : Step). IsLess x (weight heads after) (weight heads (front ++ t ∷ []))) same steps.less)

-- ---- the first tasks

pub are_first : (heads : List CondHead) → AreTasks heads (first_tasks heads)
are_first [] = tt
are_first (h ∷ hs) = (record { some = omega arith; within = omega arith }, tt)

run_through : (x : Option Ended) → option_and_then (and_then (λ (d : Draft). Some (Through d))) x ≡ x
run_through None = refl
run_through (Some (Through d)) = refl
run_through (Some (Done d)) = refl

pub first_outcome : (f : Facts) (a : Accepts) (heads : List CondHead) (d : Draft) → outcome f a heads (first_tasks heads) (first_state d) ≡ (meaning f a (tree_of heads)).run d
first_outcome f a [] d = sym (ap (λ (m : Meaning). m.run d) (meaning_node f a head.Nothing []))
first_outcome f a (h ∷ hs) d =
    run_through ((meaning f a (tree_at (h ∷ hs) (length (h ∷ hs)))).run d)
    ∙ ap (λ (xs : List CondHead). (meaning f a (first_or_nothing (grown [] xs))).run d) (take_all (length (h ∷ hs)) (h ∷ hs) (omega arith))

pub ran : (f : Facts) (a : Accepts) (heads : List CondHead) (t : Tree) (tasks : List Task) (values : List Rtx) (d : Draft) (r : Option Ended) →
    tree_of heads ≡ t → tasks ≡ first_tasks heads → values ≡ [] → r ≡ outcome f a heads tasks (record { values = values; draft = d }) → r ≡ (meaning f a t).run d
ran f a heads t tasks values d r tree are none is =
    is ∙ (ap (λ (ts : List Task). outcome f a heads ts (record { values = values; draft = d })) are
    ∙ (ap (λ (vs : List Rtx). outcome f a heads (first_tasks heads) (record { values = vs; draft = d })) none
    ∙ (first_outcome f a heads d ∙ ap (λ (x : Tree). (meaning f a x).run d) tree)))
