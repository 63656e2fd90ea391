-- What is kept while regions are put in order.
use Rattle.std.proofs.Common.{ℕ, ◌+◌, ◌-◌, ◌≤◌, List, ◌++◌, take, drop, length, refl}
use Rattle.std.specs.List.{AllByRecursion}
use Rattle.std.proofs.lemmas.List.Elements.{All-from_recursion, recursion_from_All}
use Rattle.std.proofs.lemmas.List.Sorted.{All-permutation}
use Rattle.rtx_tree.specs.declared.function.Insn.{Insn}
use Rattle.rtx_tree.specs.declared.function.Function.{Function}
use Rattle.new_insns.specs.Replaced.{window}
use Rattle.md_forms.specs.declared.form.Entry.{Entry}
use Rattle.md_dfa.specs.Lawful.{AreLawful}
use Rattle.md_dfa.specs.declared.pipeline.Pipeline.{Pipeline}
use Rattle.law_pass_needs.proofs.Places.{all_joined, all_taken, all_dropped}
use Rattle.schedule.specs.declared.plan.CycleOf.{CycleOf}
use Rattle.schedule.specs.declared.plan.Plan.{Plan}
use Rattle.schedule.specs.Schedule.{region_end, IsPlanned, GoesIn, put_in, ScheduledFrom, Scheduled}
use Rattle.schedule.proofs.EndLaws.{window_few}
use Rattle.schedule.proofs.PlanLaws.{plan_same}

module _ (forms : List Entry) (p : Pipeline) where
  -- a property that stays where a region is put in its new order
  abbrev pub StaysPut : (Function → Type 0) → Type 0
  StaysPut P = (f : Function) (place : ℕ) (q : Plan) → IsPlanned forms p f place q → GoesIn f place q → P f → P (put_in f place q)

  from_kept : (P : Function → Type 0) → StaysPut P → (place : ℕ) (f g : Function) (cycles : List CycleOf) → ScheduledFrom forms p place f cycles g → P f → P g
  from_kept P step _ _ _ _ (ScheduledFrom.done place f past) is = is
  from_kept P step _ _ _ _ (ScheduledFrom.passes place f g cycles within none rest) is = from_kept P step (place + 1) f g cycles rest is
  from_kept P step _ _ _ _ (ScheduledFrom.stays place f g cycles q planned not rest) is = from_kept P step (region_end f place) f g cycles rest is
  from_kept P step _ _ _ _ (ScheduledFrom.goes place f g cycles q planned put rest) is = from_kept P step (region_end f place) (put_in f place q) g cycles rest (step f place q planned put is)

  pub kept : (P : Function → Type 0) → StaysPut P → (f g : Function) (cycles : List CycleOf) → Scheduled forms p f cycles g → P f → P g
  kept P step f g cycles = from_kept P step 0 f g cycles

  -- what holds of each instruction stays
  module _ (lawful : AreLawful p) (P : Insn → Type 0) where
    abbrev Each : Function → Type 0
    Each f = AllByRecursion P f.insns

    permuted : (f : Function) (place : ℕ) (q : Plan) → IsPlanned forms p f place q → Each f → AllByRecursion P q.insns
    permuted f place q planned all =
        let old : List Insn = window f place (region_end f place) in
        let few : length old ≤ 64 = window_few f place (region_end f place) refl in
        let own : AllByRecursion P old = all_taken P (region_end f place - place) (drop place f.insns) (all_dropped P place f.insns all) in
        recursion_from_All P q.insns (All-permutation P old q.insns (plan_same forms p lawful old few q planned.plan) (All-from_recursion P old own))

    pub each_put : StaysPut Each
    each_put f place q planned put all =
        all_joined P (take place f.insns) (q.insns ++ drop (region_end f place) f.insns) (all_taken P place f.insns all)
        (all_joined P q.insns (drop (region_end f place) f.insns) (permuted f place q planned all) (all_dropped P (region_end f place) f.insns all))

    pub each_kept : (f g : Function) (cycles : List CycleOf) → Scheduled forms p f cycles g → Each f → Each g
    each_kept f g cycles = kept Each each_put f g cycles
