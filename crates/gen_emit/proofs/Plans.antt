-- Plans for trees that end among heads.
use Rattle.std.proofs.Common.{◌≡◌, ℕ, suc, ◌+◌, ◌*◌, ◌<◌, List, [], ◌∷◌, map, Option, sym, ap, subst, ◌∙◌}
use Rattle.std.specs.Prelude.{option_and_then}
use Rattle.c_words.specs.declared.head.CondHead.{CondHead}
use Rattle.c_eval.specs.declared.facts.Facts.{Facts}
use Rattle.md_recog.specs.Match.{Accepts}
use Rattle.gen_emit.specs.declared.draft.Draft.{Draft}
use Rattle.gen_emit.specs.declared.layout.Parts.{Parts}
use Rattle.gen_emit.specs.declared.plan.Task.TheVariants as task
use Rattle.gen_emit.specs.declared.plan.Plan.{Plan}
use Rattle.gen_emit.specs.Values.{Made}
use Rattle.gen_emit.specs.Statements.{Meaning, meaning, meaning_by, and_then}
use Rattle.gen_emit.specs.machine.Layout.{tree_at, IsMade}
use Rattle.gen_emit.specs.machine.Tasks.{given}
use Rattle.gen_emit.specs.machine.Plans.{do_all, size, weight, tasks_of, IsPlan, plan_to_run, plan_to_make}
use Rattle.gen_emit.proofs.Meanings.{meaning_node, size_node}
use Rattle.gen_emit.proofs.Fits.{trees_of, meanings_of, sizes_of, runs, makes}

module _ (f : Facts) (a : Accepts) (heads : List CondHead) (d : Draft) (end : ℕ) (h : CondHead) (parts : Parts) (is : IsMade heads end h parts) where
  means : meaning f a (tree_at heads end) ≡ meaning_by f a h (meanings_of f a heads d parts)
  means = ap (meaning f a) is.tree ∙ meaning_node f a h (trees_of f a heads d parts)

  sized : size (tree_at heads end) ≡ suc (sizes_of f a heads d parts)
  sized = ap size is.tree ∙ size_node h (trees_of f a heads d parts)

  less : (n : ℕ) → n < 2 * suc (sizes_of f a heads d parts) → n < 2 * size (tree_at heads end)
  less n is_less = subst (λ (k : ℕ). n < 2 * k) (sym sized) is_less

  pub run_plan : (p : Plan) → p ≡ plan_to_run f a heads d h parts → IsPlan f a heads d (task.Run end) p
  run_plan p same =
      let all = runs f a heads d h parts is.ends in
      subst (IsPlan f a heads d (task.Run end)) (sym same) (record {
        comes = λ rest values. ap (λ (x : Meaning). option_and_then (and_then (do_all f a heads rest values)) (x.run d)) means ∙ all.comes rest values;
        tasks = all.tasks;
        less = less (weight heads (tasks_of (plan_to_run f a heads d h parts))) all.less;
      })

  pub make_plan : (p : Plan) → p ≡ plan_to_make f a heads d h parts → IsPlan f a heads d (task.Make end) p
  make_plan p same =
      let all = makes f a heads d h parts is.ends in
      subst (IsPlan f a heads d (task.Make end)) (sym same) (record {
        comes = λ rest values. ap (λ (x : Meaning). given (do_all f a heads rest) values (x.value d)) means ∙ all.comes rest values;
        tasks = all.tasks;
        less = less (weight heads (tasks_of (plan_to_make f a heads d h parts))) all.less;
      })
