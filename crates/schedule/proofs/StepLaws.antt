-- What comes of the regions from a place on.
use Rattle.std.proofs.Common.{◌≡◌, ℕ, ◌+◌, ◌<◌, ◌≤◌, inl, inr, List, [], ◌++◌, take, drop, length, append_assoc, refl, sym, ap, subst, ◌∙◌, arith}
use Rattle.std.proofs.lemmas.List.{append-nil, length-append, length-take, length-drop}
use Rattle.rtx_tree.specs.declared.function.Insn.{Insn}
use Rattle.rtx_tree.specs.declared.function.Function.{Function}
use Rattle.new_insns.specs.Replaced.{replaced}
use Rattle.law_window_put.specs.Put.{IsPut}
use Rattle.md_forms.specs.declared.form.Entry.{Entry}
use Rattle.md_dfa.specs.declared.pipeline.Pipeline.{Pipeline}
use Rattle.schedule.specs.declared.plan.CycleOf.{CycleOf}
use Rattle.schedule.specs.declared.plan.Plan.{Plan}
use Rattle.schedule.specs.Schedule.{region_end, IsPlanned, put_in, ScheduledFrom, Scheduled}
use Rattle.schedule.specs.machine.Made.{IsDone}

-- what comes of the rest from a place on comes of all
abbrev pub LeadsFrom : List Entry → Pipeline → ℕ → Function → List CycleOf → ℕ → Function → List CycleOf → Type 0
LeadsFrom forms pipeline from f before place g now = (h : Function) (cycles : List CycleOf) →
    ScheduledFrom forms pipeline place g cycles h →
    (all : List CycleOf) × (before ++ all ≡ now ++ cycles) × ScheduledFrom forms pipeline from f all h

-- with as many instructions in a window's place a function is as long
pub put_long : (f : Function) (place end : ℕ) (new : List Insn) → place ≤ end → end ≤ length f.insns → place + length new ≡ end → length (replaced f place end new).insns ≡ length f.insns
put_long f place end new order within same =
    let front = length-take place f.insns in
    let back = length-drop end f.insns in
    let rest = length-append new (drop end f.insns) in
    let all = length-append (take place f.insns) (new ++ drop end f.insns) in
    omega (arith, front, back, rest, all)

pub done_long : (f g : Function) (place end : ℕ) (p : Plan) (before now : List CycleOf) → place < end → end ≤ length f.insns → place + length p.insns ≡ end → IsDone f place end p before g now → length g.insns ≡ length f.insns
done_long f g place end p before now order within same (inl went) = ap (λ (h : Function). length h.insns) went.function ∙ put_long f place end p.insns (omega arith) within same
done_long f g place end p before now order within same (inr stayed) = ap (λ (h : Function). length h.insns) stayed.function

module _ (forms : List Entry) (p : Pipeline) (f : Function) where
  pub leads_first : LeadsFrom forms p 0 f [] 0 f []
  leads_first h cycles rest = (cycles, refl, rest)

  pub leads_past : (place : ℕ) (g : Function) (now : List CycleOf) → place < length g.insns → region_end g place ≡ place → LeadsFrom forms p 0 f [] place g now → LeadsFrom forms p 0 f [] (place + 1) g now
  leads_past place g now within none so_far = λ h cycles rest. so_far h cycles (ScheduledFrom.passes place g h cycles within none rest)

  pub leads_done : (place end : ℕ) (g k : Function) (plan : Plan) (now new : List CycleOf) → IsPlanned forms p g place plan → end ≡ region_end g place → IsDone g place end plan now k new
      → LeadsFrom forms p 0 f [] place g now → LeadsFrom forms p 0 f [] end k new
  leads_done place end g k plan now new planned is (inl went) so_far = λ h cycles rest.
      let there : ScheduledFrom forms p (region_end g place) (put_in g place plan) cycles h =
      subst (λ (n : ℕ). ScheduledFrom forms p n (replaced g place n plan.insns) cycles h) is (subst (λ (q : Function). ScheduledFrom forms p end q cycles h) went.function rest) in
      let put = subst (λ (n : ℕ). IsPut g place n plan.insns) is went.put in
      let all = so_far h (plan.cycles ++ cycles) (ScheduledFrom.goes place g h cycles plan planned put there) in
      (all.0, all.1 ∙ (sym (append_assoc now plan.cycles cycles) ∙ ap (λ (l : List CycleOf). l ++ cycles) (sym went.cycles)), all.2)
  leads_done place end g k plan now new planned is (inr stayed) so_far = λ h cycles rest.
      let there : ScheduledFrom forms p (region_end g place) g cycles h =
      subst (λ (n : ℕ). ScheduledFrom forms p n g cycles h) is (subst (λ (q : Function). ScheduledFrom forms p end q cycles h) stayed.function rest) in
      let other = λ (put : IsPut g place (region_end g place) plan.insns). stayed.other (subst (λ (n : ℕ). IsPut g place n plan.insns) (sym is) put) in
      let all = so_far h cycles (ScheduledFrom.stays place g h cycles plan planned other there) in
      (all.0, all.1 ∙ ap (λ (l : List CycleOf). l ++ cycles) (sym stayed.cycles), all.2)

  pub ends_there : (place : ℕ) (g : Function) (now : List CycleOf) → length g.insns ≤ place → LeadsFrom forms p 0 f [] place g now → Scheduled forms p f now g
  ends_there place g now past so_far =
      let all = so_far g [] (ScheduledFrom.done place g past) in
      subst (λ (l : List CycleOf). ScheduledFrom forms p 0 f l g) (all.1 ∙ append-nil now) all.2
