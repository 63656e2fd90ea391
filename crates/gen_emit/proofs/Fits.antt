-- Plans do what statements and values do, by the heads of these.
use Rattle.std.proofs.Common.{◌≡◌, ℕ, suc, ◌+◌, ◌*◌, ◌<◌, Bool, true, false, List, [], ◌∷◌, ◌++◌, map, Option, Some, None, refl, sym, ap, subst, ◌∙◌, arith}
use Rattle.std.specs.Prelude.{ℤ, sum, if◌then◌else◌, option_map, option_and_then}
use Rattle.std.specs.List.{AllByRecursion}
use Rattle.rtx_tree.specs.declared.code.Mode.{Mode}
use Rattle.rtx_tree.specs.declared.tree.Rtx.{Rtx}
use Rattle.rtx_tree.specs.Tree.{const_of}
use Rattle.c_words.specs.declared.head.Call.TheVariants as call
use Rattle.c_words.specs.declared.head.CondHead.{CondHead}
use Rattle.c_words.specs.declared.head.CondHead.TheVariants as head
use Rattle.c_cond.specs.declared.tree.Tree.{Tree}
use Rattle.c_eval.specs.Numbers.{is_zero}
use Rattle.c_eval.specs.declared.facts.Facts.{Facts}
use Rattle.md_recog.specs.Match.{Accepts}
use Rattle.gen_emit.specs.declared.draft.Draft.{Draft}
use Rattle.gen_emit.specs.declared.draft.Ended.{Ended}
use Rattle.gen_emit.specs.declared.draft.Ended.TheVariants.{Through, Done}
use Rattle.gen_emit.specs.declared.layout.Parts.{Parts}
use Rattle.gen_emit.specs.declared.layout.Parts.TheVariants as parts
use Rattle.gen_emit.specs.declared.plan.Task.{Task}
use Rattle.gen_emit.specs.declared.plan.Task.TheVariants as task
use Rattle.gen_emit.specs.declared.plan.Plan.{Plan}
use Rattle.gen_emit.specs.declared.plan.Plan.TheVariants as plan
use Rattle.gen_emit.specs.declared.state.Op.TheVariants as op
use Rattle.gen_emit.specs.Values as values
use Rattle.gen_emit.specs.Values.{Made, made, assigned, moved, forced, lowered}
use Rattle.gen_emit.specs.Statements as spec
use Rattle.gen_emit.specs.Statements.{Meaning, meaning, and_then, number_in, mode_of, run_by, value_by}
use Rattle.gen_emit.specs.machine.Layout.{tree_at, IsEnd, ends_of}
use Rattle.gen_emit.specs.machine.Tasks.{Going, given, stepped}
use Rattle.gen_emit.specs.machine.Plans as plans
use Rattle.gen_emit.specs.machine.Plans.{do_all, tasks_of, step_of, size, weight, AreTasks, plan_to_run, plan_to_make}
use Rattle.gen_emit.proofs.Meanings.{tree_of_meaning}

-- ---- one behind the other

-- a statement behind a value
value_then : (g : Draft → Option Ended) (k : Made → Draft) (x : Option Made) →
    option_and_then (and_then g) (option_map (λ (y : Made). Through (k y)) x) ≡ option_and_then (λ (y : Made). g (k y)) x
value_then g k None = refl
value_then g k (Some y) = refl

-- a statement behind two values, of which the second is made where the first leaves it
values_then : (g : Draft → Option Ended) (k : Made → Made → Draft) (second : Draft → Option Made) (x : Option Made) →
    option_and_then (and_then g) (option_and_then (λ (y : Made). option_map (λ (z : Made). Through (k y z)) (second y.draft)) x)
    ≡ option_and_then (λ (y : Made). option_and_then (λ (z : Made). g (k y z)) (second y.draft)) x
values_then g k second None = refl
values_then g k second (Some y) = value_then g (k y) (second y.draft)

-- a statement behind two
statements_then : (g second : Draft → Option Ended) (x : Option Ended) →
    option_and_then (and_then g) (option_and_then (and_then second) x) ≡ option_and_then (and_then (λ (d : Draft). option_and_then (and_then g) (second d))) x
statements_then g second None = refl
statements_then g second (Some (Through d)) = refl
statements_then g second (Some (Done d)) = refl

-- what is made of a value
made_then : (next : Going) (values : List Rtx) (maker : Made → Option Made) (x : Option Made) →
    given next values (option_and_then maker x) ≡ option_and_then (λ (y : Made). given next values (maker y)) x
made_then next values maker None = refl
made_then next values maker (Some y) = refl

module _ (f : Facts) (a : Accepts) (heads : List CondHead) (d : Draft) where
  abbrev pub trees_of : Parts → List Tree
  trees_of p = map (tree_at heads) (ends_of p)

  abbrev pub meanings_of : Parts → List Meaning
  meanings_of p = map (meaning f a) (trees_of p)

  abbrev pub sizes_of : Parts → ℕ
  sizes_of p = sum (map size (trees_of p))

  abbrev m : ℕ → Meaning
  m end = meaning f a (tree_at heads end)

  -- ---- statements

  -- a plan does what a statement of so many heads does
  pub record Runs (run : Option Ended) (n : ℕ) (p : Plan) : Type 0 where
    pub comes : (rest : List Task) (values : List Rtx) → option_and_then (and_then (do_all f a heads rest values)) run ≡ stepped (step_of p) (do_all f a heads (tasks_of p ++ rest) values d) d
    pub tasks : AreTasks heads (tasks_of p)
    pub less : weight heads (tasks_of p) < 2 * n

  fails : (n : ℕ) → Runs None (suc n) plan.Fail
  fails n = record { comes = λ rest values. refl; tasks = tt; less = omega arith }

  nothing : (n : ℕ) → Runs (Some (Through d)) (suc n) plan.Nothing
  nothing n = record { comes = λ rest values. refl; tasks = tt; less = omega arith }

  one : (body n : ℕ) → IsEnd heads body → size (tree_at heads body) < n → Runs ((m body).run d) n (plan.One (task.Run body))
  one body n end less = record { comes = λ rest values. refl; tasks = (end, tt); less = omega (arith, less) }

  by_zero : (b : Bool) (n : ℕ) (first second : Option Ended) (p q : Plan) → Runs first n p → Runs second n q → Runs (if b then second else first) n (if b then q else p)
  by_zero true n first second p q x y = y
  by_zero false n first second p q x y = x

  chosen : (test : Option ℤ) (n : ℕ) (first second : Draft → Option Ended) (p q : Plan) → Runs (first d) (suc n) p → Runs (second d) (suc n) q →
      Runs (spec.chosen first second d test) (suc n) (plans.chosen test p q)
  chosen None n first second p q x y = fails n
  chosen (Some k) n first second p q x y = by_zero (is_zero k) (suc n) (first d) (second d) p q x y

  chosen_by : (test n : ℕ) (first second : Draft → Option Ended) (p q : Plan) → Runs (first d) (suc n) p → Runs (second d) (suc n) q →
      Runs (spec.chosen first second d (number_in f a (m test).tree d)) (suc n) (plans.chosen (number_in f a (tree_at heads test) d) p q)
  chosen_by test n first second p q x y =
      subst (λ (t : Tree). Runs (spec.chosen first second d (number_in f a t d)) (suc n) (plans.chosen (number_in f a (tree_at heads test) d) p q))
      (sym (tree_of_meaning f a (tree_at heads test))) (chosen (number_in f a (tree_at heads test) d) n first second p q x y)

  pub runs : (h : CondHead) (p : Parts) → AllByRecursion (IsEnd heads) (ends_of p) → Runs (run_by f a h (meanings_of p) d) (suc (sizes_of p)) (plan_to_run f a heads d h p)
  runs head.Nothing parts.None ends = nothing 0
  runs head.Done parts.None ends = record { comes = λ rest values. refl; tasks = tt; less = omega arith }
  runs (head.Assign k) (parts.One x) ends = record {
    comes = λ rest values. value_then (do_all f a heads rest values) (λ (y : Made). assigned k y.value y.draft) ((m x).value d);
    tasks = (ends.0, (tt, tt));
    less = omega arith;
  }
  runs (head.Call call.EmitMove) (parts.Two x y) ends = record {
    comes = λ rest values. values_then (do_all f a heads rest values) (λ (u v : Made). moved u.value v.value v.draft) (m y).value ((m x).value d);
    tasks = (ends.0, (ends.1.0, (tt, tt)));
    less = omega arith;
  }
  runs head.Then (parts.Two x y) ends = record {
    comes = λ rest values. statements_then (do_all f a heads rest values) (m y).run ((m x).run d);
    tasks = (ends.0, (ends.1.0, tt));
    less = omega arith;
  }
  runs head.If (parts.Two test body) ends =
      chosen_by test (sizes_of (parts.Two test body)) (m body).run (λ (same : Draft). Some (Through same)) (plan.One (task.Run body)) plan.Nothing
      (one body (suc (sizes_of (parts.Two test body))) ends.1.0 (omega arith)) (nothing (sizes_of (parts.Two test body)))
  runs head.IfElse (parts.Three test body other) ends =
      chosen_by test (sizes_of (parts.Three test body other)) (m body).run (m other).run (plan.One (task.Run body)) (plan.One (task.Run other))
      (one body (suc (sizes_of (parts.Three test body other))) ends.1.0 (omega arith)) (one other (suc (sizes_of (parts.Three test body other))) ends.1.1.0 (omega arith))
  runs h p ends = fails (sizes_of p)

  -- ---- values

  -- a plan makes what a tree of so many heads makes
  pub record Makes (value : Option Made) (n : ℕ) (p : Plan) : Type 0 where
    pub comes : (rest : List Task) (values : List Rtx) → given (do_all f a heads rest) values value ≡ stepped (step_of p) (do_all f a heads (tasks_of p ++ rest) values d) d
    pub tasks : AreTasks heads (tasks_of p)
    pub less : weight heads (tasks_of p) < 2 * n

  makes_none : (n : ℕ) → Makes None (suc n) plan.Fail
  makes_none n = record { comes = λ rest values. refl; tasks = tt; less = omega arith }

  constant : (number : Option ℤ) (n : ℕ) → Makes (option_map (λ k. made (const_of k) d) number) (suc n) (plans.constant number)
  constant None n = makes_none n
  constant (Some k) n = record { comes = λ rest values. refl; tasks = (tt, tt); less = omega arith }

  constant_in : (mode : Option Mode) (number : Option ℤ) (n : ℕ) → Makes (spec.constant_in mode number d) (suc n) (plans.constant_in number mode)
  constant_in None None n = makes_none n
  constant_in None (Some k) n = makes_none n
  constant_in (Some mode) None n = makes_none n
  constant_in (Some mode) (Some k) n = record { comes = λ rest values. refl; tasks = (tt, tt); less = omega arith }

  fresh : (mode : Option Mode) (n : ℕ) → Makes (option_and_then (λ (x : Mode). values.fresh f.new_pseudos x d) mode) (suc n) (plans.fresh mode)
  fresh None n = makes_none n
  fresh (Some mode) n = record { comes = λ rest values. refl; tasks = (tt, tt); less = omega arith }

  put_in : (mode : Option Mode) (x n : ℕ) → IsEnd heads x → size (tree_at heads x) < n → Makes (spec.made_in (forced f.new_pseudos) mode ((m x).value d)) n (plans.forced mode x)
  put_in None x n end less = record { comes = λ rest values. refl; tasks = tt; less = omega (arith, less) }
  put_in (Some mode) x n end less = record {
    comes = λ rest values. made_then (do_all f a heads rest) values (forced f.new_pseudos mode) ((m x).value d);
    tasks = (end, (tt, tt));
    less = omega (arith, less);
  }

  part_of : (mode : Option Mode) (x n : ℕ) → IsEnd heads x → size (tree_at heads x) < n → Makes (spec.made_in lowered mode ((m x).value d)) n (plans.lowered mode x)
  part_of None x n end less = record { comes = λ rest values. refl; tasks = tt; less = omega (arith, less) }
  part_of (Some mode) x n end less = record {
    comes = λ rest values. made_then (do_all f a heads rest) values (lowered mode) ((m x).value d);
    tasks = (end, (tt, tt));
    less = omega (arith, less);
  }

  same : (end : ℕ) → tree_at heads end ≡ (m end).tree
  same end = sym (tree_of_meaning f a (tree_at heads end))

  pub makes : (h : CondHead) (p : Parts) → AllByRecursion (IsEnd heads) (ends_of p) → Makes (value_by f a h (meanings_of p) d) (suc (sizes_of p)) (plan_to_make f a heads d h p)
  makes (head.Operand k) parts.None ends = record { comes = λ rest values. refl; tasks = (tt, tt); less = omega arith }
  makes (head.Call call.GenInt) (parts.One e) ends =
      subst (λ (t : Tree). Makes (option_map (λ k. made (const_of k) d) (number_in f a t d)) (suc (sizes_of (parts.One e))) (plans.constant (number_in f a (tree_at heads e) d))) (same e)
      (constant (number_in f a (tree_at heads e) d) (sizes_of (parts.One e)))
  makes (head.Call call.GenIntMode) (parts.Two e mode) ends =
      subst (λ (t : Tree). Makes (spec.constant_in (mode_of t) (number_in f a (m e).tree d) d) (suc (sizes_of (parts.Two e mode))) (plans.constant_in (number_in f a (tree_at heads e) d) (mode_of (tree_at heads mode)))) (same mode)
      (subst (λ (t : Tree). Makes (spec.constant_in (mode_of (tree_at heads mode)) (number_in f a t d) d) (suc (sizes_of (parts.Two e mode))) (plans.constant_in (number_in f a (tree_at heads e) d) (mode_of (tree_at heads mode)))) (same e)
      (constant_in (mode_of (tree_at heads mode)) (number_in f a (tree_at heads e) d) (sizes_of (parts.Two e mode))))
  makes (head.Call call.GenReg) (parts.One mode) ends =
      subst (λ (t : Tree). Makes (option_and_then (λ (x : Mode). values.fresh f.new_pseudos x d) (mode_of t)) (suc (sizes_of (parts.One mode))) (plans.fresh (mode_of (tree_at heads mode)))) (same mode)
      (fresh (mode_of (tree_at heads mode)) (sizes_of (parts.One mode)))
  makes (head.Call call.ForceReg) (parts.Two mode x) ends =
      subst (λ (t : Tree). Makes (spec.made_in (forced f.new_pseudos) (mode_of t) ((m x).value d)) (suc (sizes_of (parts.Two mode x))) (plans.forced (mode_of (tree_at heads mode)) x)) (same mode)
      (put_in (mode_of (tree_at heads mode)) x (suc (sizes_of (parts.Two mode x))) ends.1.0 (omega arith))
  makes (head.Call call.GenLowpart) (parts.Two mode x) ends =
      subst (λ (t : Tree). Makes (spec.made_in lowered (mode_of t) ((m x).value d)) (suc (sizes_of (parts.Two mode x))) (plans.lowered (mode_of (tree_at heads mode)) x)) (same mode)
      (part_of (mode_of (tree_at heads mode)) x (suc (sizes_of (parts.Two mode x))) ends.1.0 (omega arith))
  makes h p ends = makes_none (sizes_of p)
