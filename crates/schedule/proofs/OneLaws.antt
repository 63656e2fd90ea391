-- A function with its regions in order is one, and so are the cycles that are told.
use Rattle.std.proofs.Common.{◌≡◌, ℕ, ◌+◌, ◌<◌, ◌≤◌, List, ◌++◌, drop, length, refl, sym, ap, subst, ◌∙◌, arith}
use Rattle.std.proofs.lemmas.List.{length-drop}
use Rattle.rtx_tree.specs.declared.function.Insn.{Insn}
use Rattle.rtx_tree.specs.declared.function.Function.{Function}
use Rattle.new_insns.specs.Replaced.{window}
use Rattle.job_order.specs.Order.{AreCycles, IsOrder}
use Rattle.law_order.specs.Ordered.{in_order}
use Rattle.region_jobs.specs.declared.taken.Taken.{Taken}
use Rattle.region_jobs.specs.Jobs.{jobs_of}
use Rattle.md_forms.specs.declared.form.Entry.{Entry}
use Rattle.md_dfa.specs.declared.pipeline.Pipeline.{Pipeline}
use Rattle.pipe_uses.specs.Takes.{Takes}
use Rattle.pipe_uses.proofs.TakesLaws.{takes_one}
use Rattle.schedule.specs.declared.plan.CycleOf.{CycleOf}
use Rattle.schedule.specs.declared.plan.Plan.{Plan}
use Rattle.schedule.specs.Schedule.{with_cycles, IsPlan, region_end, IsPlanned, GoesIn, put_in, ScheduledFrom, Scheduled}
use Rattle.schedule.proofs.ZipLaws.{zip_one}
use Rattle.schedule.proofs.OneOrder.{cycles_one, order_one}
use Rattle.schedule.proofs.EndLaws.{length_within}

module _ (forms : List Entry) (p : Pipeline) where
  -- ---- a plan

  module _ (insns : List Insn) (a b : Plan) (one : IsPlan forms p insns a) (other : IsPlan forms p insns b) where
    taken_same : one.taken ≡ other.taken
    taken_same = zip_one (Takes forms p) (λ i t u. takes_one forms p i t u) insns one.taken other.taken one.takes other.takes

    cycles_same : one.cycles ≡ other.cycles
    cycles_same = cycles_one (jobs_of insns other.taken) one.cycles other.cycles
        (subst (λ (t : List Taken). AreCycles (jobs_of insns t) one.cycles) taken_same one.placed) other.placed

    order_same : one.order ≡ other.order
    order_same = order_one other.cycles one.order other.order (subst (λ (c : List ℕ). IsOrder c one.order) cycles_same one.ordered) other.ordered

    insns_same : a.insns ≡ b.insns
    insns_same = one.puts ∙ (ap (in_order insns) order_same ∙ sym other.puts)

    told_same : a.cycles ≡ b.cycles
    told_same = one.tells ∙ (ap (λ (c : List ℕ). in_order (with_cycles insns c) one.order) cycles_same
        ∙ (ap (in_order (with_cycles insns other.cycles)) order_same ∙ sym other.tells))

    pub plan_one : a ≡ b
    plan_one = ap (λ (i : List Insn). record { insns = i; cycles = a.cycles }) insns_same ∙ ap (λ (c : List CycleOf). record { insns = b.insns; cycles = c }) told_same

  planned_one : (f : Function) (place : ℕ) (a b : Plan) → IsPlanned forms p f place a → IsPlanned forms p f place b → a ≡ b
  planned_one f place a b one other = plan_one (window f place (region_end f place)) a b one.plan other.plan

  -- ---- a function

  -- no region begins behind the last instruction
  ends_there : (f : Function) (place : ℕ) → length f.insns ≤ place → place < region_end f place → ⊥
  ends_there f place past some =
      let one = length_within (drop place f.insns) in
      let other = length-drop place f.insns in
      omega (arith, one, other, past, some)

  abbrev From : ℕ → Function → List CycleOf → Function → Type 0
  From = ScheduledFrom forms p

  from_one : (place : ℕ) (f g h : Function) (a b : List CycleOf) → From place f a g → From place f b h → (a ≡ b) × (g ≡ h)
  from_one _ _ _ _ _ _ (ScheduledFrom.done place f past) (ScheduledFrom.done _ _ other) = (refl, refl)
  from_one _ _ _ _ _ _ (ScheduledFrom.done place f past) (ScheduledFrom.passes _ _ h b within none rest) = absurd (omega arith)
  from_one _ _ _ _ _ _ (ScheduledFrom.done place f past) (ScheduledFrom.stays _ _ h b q planned not rest) = absurd (ends_there f place past planned.some)
  from_one _ _ _ _ _ _ (ScheduledFrom.done place f past) (ScheduledFrom.goes _ _ h b q planned put rest) = absurd (ends_there f place past planned.some)
  from_one _ _ _ _ _ _ (ScheduledFrom.passes place f g a within none rest) (ScheduledFrom.done _ _ past) = absurd (omega arith)
  from_one _ _ _ _ _ _ (ScheduledFrom.passes place f g a within none rest) (ScheduledFrom.passes _ _ h b within_too none_too rest_too) = from_one (place + 1) f g h a b rest rest_too
  from_one _ _ _ _ _ _ (ScheduledFrom.passes place f g a within none rest) (ScheduledFrom.stays _ _ h b q planned not rest_too) = let some = planned.some in absurd (omega (arith, none, some))
  from_one _ _ _ _ _ _ (ScheduledFrom.passes place f g a within none rest) (ScheduledFrom.goes _ _ h b q planned put rest_too) = let some = planned.some in absurd (omega (arith, none, some))
  from_one _ _ _ _ _ _ (ScheduledFrom.stays place f g a q planned not rest) (ScheduledFrom.done _ _ past) = absurd (ends_there f place past planned.some)
  from_one _ _ _ _ _ _ (ScheduledFrom.stays place f g a q planned not rest) (ScheduledFrom.passes _ _ h b within none rest_too) = let some = planned.some in absurd (omega (arith, none, some))
  from_one _ _ _ _ _ _ (ScheduledFrom.stays place f g a q planned not rest) (ScheduledFrom.stays _ _ h b r planned_too not_too rest_too) = from_one (region_end f place) f g h a b rest rest_too
  from_one _ _ _ _ _ _ (ScheduledFrom.stays place f g a q planned not rest) (ScheduledFrom.goes _ _ h b r planned_too put rest_too) =
      absurd (not (subst (GoesIn f place) (planned_one f place r q planned_too planned) put))
  from_one _ _ _ _ _ _ (ScheduledFrom.goes place f g a q planned put rest) (ScheduledFrom.done _ _ past) = absurd (ends_there f place past planned.some)
  from_one _ _ _ _ _ _ (ScheduledFrom.goes place f g a q planned put rest) (ScheduledFrom.passes _ _ h b within none rest_too) = let some = planned.some in absurd (omega (arith, none, some))
  from_one _ _ _ _ _ _ (ScheduledFrom.goes place f g a q planned put rest) (ScheduledFrom.stays _ _ h b r planned_too not rest_too) =
      absurd (not (subst (GoesIn f place) (planned_one f place q r planned planned_too) put))
  from_one _ _ _ _ _ _ (ScheduledFrom.goes place f g a q planned put rest) (ScheduledFrom.goes _ _ h b r planned_too put_too rest_too) =
      let same : r ≡ q = planned_one f place r q planned_too planned in
      let both = from_one (region_end f place) (put_in f place q) g h a b rest (subst (λ (x : Plan). From (region_end f place) (put_in f place x) b h) same rest_too) in
      (ap (λ (c : List CycleOf). q.cycles ++ c) both.0 ∙ ap (λ (x : Plan). x.cycles ++ b) (sym same), both.1)

  pub scheduled_one : (f g h : Function) (a b : List CycleOf) → Scheduled forms p f a g → Scheduled forms p f b h → (a ≡ b) × (g ≡ h)
  scheduled_one f g h a b = from_one 0 f g h a b
