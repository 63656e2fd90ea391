-- The cycles of functions are one outcome.
use Rattle.std.proofs.Common.{◌≡◌, List, Ok, Err, ap, subst, ◌∙◌}
use Rattle.rtx_tree.specs.declared.function.Function.{Function}
use Rattle.run_refusal.specs.declared.refusal.Refusal.{Refusal}
use Rattle.pass_name.specs.declared.road.Road.TheVariants.{Usual}
use Rattle.md_forms.specs.declared.form.Entry.{Entry}
use Rattle.md_dfa.specs.Pipeline.{pipeline_in}
use Rattle.schedule.specs.Schedule.{Scheduled}
use Rattle.schedule.specs.declared.plan.CycleOf.{CycleOf}
use Rattle.schedule.proofs.OneLaws.{scheduled_one}
use Rattle.func_input.specs.Outcome.{Outcome}
use Rattle.func_after.specs.Each.{EachComes}
use Rattle.func_after.specs.After.{Answer, AfterComes}
use Rattle.func_after.specs.declared.compilation.Compilation.{Compilation}
use Rattle.func_after.proofs.Each.{one_each}
use Rattle.func_after.proofs.OneAfter.{one_after}
use Rattle.func_text.specs.Recog.{OutputComes}
use Rattle.func_text.specs.Cycles.{lines_of, where_comes, FunctionComes, FunctionsCome}
use Rattle.func_text.proofs.One.{output_one}

module _ (es : List Entry) where
  not_both : {P : Type 0} (f : Function) (e : Refusal) (m : Compilation) → AfterComes es Usual f (Err e) → AfterComes es Usual f (Ok m) → P
  not_both f e m wrong after =
      absurd (let same : ◌≡◌ {A = Answer} (Err e) (Ok m) = one_after es Usual f (Err e) (Ok m) wrong after in let never : ⊥ = cc in never)

  same_err : (e d : Refusal) → ◌≡◌ {A = Answer} (Err e) (Err d) → ◌≡◌ {A = Outcome} (Err e) (Err d)
  same_err e d is = ap (λ (x : Refusal). Err x) (let same : e ≡ d = cc in same)

  same_function : (m n : Compilation) → ◌≡◌ {A = Answer} (Ok m) (Ok n) → m.function ≡ n.function
  same_function m n is = ap (λ (k : Compilation). k.function) (let same : m ≡ n = cc in same)

  -- in one new order
  ordered_one : (f before before_too g h : Function) (cs ds : List CycleOf) (a b : Outcome) → before ≡ before_too →
      Scheduled es (pipeline_in es) before cs g → Scheduled es (pipeline_in es) before_too ds h →
      EachComes (OutputComes es f.name) g.insns a → EachComes (OutputComes es f.name) h.insns b →
      where_comes (lines_of f.name cs) a ≡ where_comes (lines_of f.name ds) b
  ordered_one f before before_too g h cs ds a b same goes goes_too come come_too =
      let both = scheduled_one es (pipeline_in es) before_too g h cs ds (subst (λ (x : Function). Scheduled es (pipeline_in es) x cs g) same goes) goes_too in
      let here : EachComes (OutputComes es f.name) h.insns a = subst (λ (x : Function). EachComes (OutputComes es f.name) x.insns a) both.1 come in
      ap (λ (c : List CycleOf). where_comes (lines_of f.name c) a) both.0
      ∙ ap (where_comes (lines_of f.name ds)) (one_each (OutputComes es f.name) (output_one es f.name) h.insns a b here come_too)

  function_one : (f : Function) (a b : Outcome) → FunctionComes es f a → FunctionComes es f b → a ≡ b
  function_one f _ _ (FunctionComes.refused e after) (FunctionComes.refused d after_too) = same_err e d (one_after es Usual f (Err e) (Err d) after after_too)
  function_one f _ _ (FunctionComes.refused e after) (FunctionComes.ordered m h ds b after_too goes_too come_too) = not_both f e m after after_too
  function_one f _ _ (FunctionComes.ordered m g cs a after goes come) (FunctionComes.refused d after_too) = not_both f d m after_too after
  function_one f _ _ (FunctionComes.ordered m g cs a after goes come) (FunctionComes.ordered n h ds b after_too goes_too come_too) =
      ordered_one f m.function n.function g h cs ds a b (same_function m n (one_after es Usual f (Ok m) (Ok n) after after_too)) goes goes_too come come_too

  pub functions_one : (fs : List Function) (a b : Outcome) → FunctionsCome es fs a → FunctionsCome es fs b → a ≡ b
  functions_one fs a b m n = one_each (FunctionComes es) function_one fs a b m n
