-- Instructions and their cycles, in a new order.
use Rattle.std.proofs.Common.{◌≡◌, ℕ, zero, suc, ◌+◌, ◌<◌, ◌≤◌, List, [], ◌∷◌, ◌++◌, take, length, get_or, refl, sym, ap, subst, ◌∙◌, arith}
use Rattle.std.specs.Prelude.{All}
use Rattle.std.specs.List.Sorted.{IsPermutation}
use Rattle.std.proofs.lemmas.List.Sorted.{length_permutation}
use Rattle.rtx_tree.specs.Limit.{most_scheduled}
use Rattle.rtx_tree.specs.declared.function.Insn.{Insn}
use Rattle.job_order.specs.declared.job.Job.{Job}
use Rattle.job_order.specs.Order.{AreCycles, IsOrder}
use Rattle.law_order.specs.Ordered.{in_order}
use Rattle.law_order.proofs.Items.{order_more}
use Rattle.law_order.proofs.AllLate.{come_late}
use Rattle.law_order.proofs.AllApart.{take_units}
use Rattle.region_jobs.proofs.KeptLaws.{keep_dependences}
use Rattle.law_order.proofs.Same.{stay_same}
use Rattle.region_jobs.specs.Jobs.{jobs_of}
use Rattle.md_forms.specs.declared.form.Entry.{Entry}
use Rattle.md_dfa.specs.Lawful.{AreLawful}
use Rattle.md_dfa.specs.declared.pipeline.Pipeline.{Pipeline}
use Rattle.schedule.specs.declared.plan.CycleOf.{CycleOf}
use Rattle.schedule.specs.declared.plan.Plan.{Plan}
use Rattle.schedule.specs.Schedule.{with_cycles, IsPlan}
use Rattle.schedule.specs.Kept.{IsKept, PlansKeep}
use Rattle.schedule.specs.machine.Made.{AreJobsOf}
use Rattle.schedule.proofs.JobLaws.{can_place, as_many}

-- ---- cycles by their places

pub length_with : (insns : List Insn) (cycles : List ℕ) → length cycles ≡ length insns → length (with_cycles insns cycles) ≡ length insns
length_with [] cycles same = refl
length_with (i ∷ insns) [] same = absurd (omega arith)
length_with (i ∷ insns) (cycle ∷ cycles) same = let rest = length_with insns cycles (omega arith) in omega (arith, rest)

pub with_at : (insns : List Insn) (cycles : List ℕ) (k : ℕ) (i : Insn) (d : CycleOf) → length cycles ≡ length insns → k < length insns → i ≡ get_or insns k i → record { uid = i.uid; cycle = get_or cycles k 0 } ≡ get_or (with_cycles insns cycles) k d
with_at [] cycles k i d same h is = absurd (omega arith)
with_at (x ∷ insns) [] k i d same h is = absurd (omega arith)
with_at (x ∷ insns) (cycle ∷ cycles) zero i d same h is = ap (λ (j : Insn). record { uid = j.uid; cycle = cycle }) is
with_at (x ∷ insns) (cycle ∷ cycles) (suc k) i d same h is = with_at insns cycles k i d (omega arith) (omega arith) is

-- ---- one place more

pub item_more : {A : Type 0} (new more items : List A) (order : List ℕ) (k place : ℕ) (x : A) → new ≡ in_order items (take k order) → k < length order → place ≡ get_or order k 0 → place < length items → x ≡ get_or items place x → more ≡ new ++ x ∷ [] → more ≡ in_order items (take (k + 1) order)
item_more new more items order k place x so_far within is in_items at pushed =
    pushed ∙ (ap (λ ys. ys ++ x ∷ []) so_far ∙ sym (order_more items order k place x within is in_items at))

-- ---- plans

module _ (forms : List Entry) (p : Pipeline) (lawful : AreLawful p) (insns : List Insn) (few : length insns ≤ most_scheduled) where
  -- there are as many cycles as instructions
  pub cycles_long : (jobs : List Job) (cycles : List ℕ) → AreJobsOf forms p insns jobs → AreCycles jobs cycles → length cycles ≡ length insns
  cycles_long jobs cycles of places =
      let are = can_place forms p lawful insns few of.taken of.takes in
      (come_late (jobs_of insns of.taken) cycles are (subst (λ (js : List Job). AreCycles js cycles) of.jobs_are places)).all ∙ as_many forms p insns of.taken of.takes

  -- the order in which a plan puts instructions is one of all of them
  pub plan_same : (q : Plan) → IsPlan forms p insns q → IsPermutation insns q.insns
  plan_same q is =
      let long = cycles_long (jobs_of insns is.taken) is.cycles (record { taken = is.taken; takes = is.takes; jobs_are = refl }) is.placed in
      subst (IsPermutation insns) (sym is.puts) (stay_same insns is.cycles is.order long is.ordered)

  pub order_long : (jobs : List Job) (cycles order : List ℕ) (new : List Insn) → AreJobsOf forms p insns jobs → AreCycles jobs cycles → IsOrder cycles order → new ≡ in_order insns order → length new ≡ length insns
  order_long jobs cycles order new of places is puts =
      ap length puts ∙ length_permutation insns (in_order insns order) (stay_same insns cycles order (cycles_long jobs cycles of places) is)

  -- the places of an order are places of instructions
  pub order_within : (cycles order : List ℕ) → length cycles ≡ length insns → IsOrder cycles order → All (λ place. place < length insns) order
  order_within cycles order long is = λ k d h. let low = is.within k d h in omega (arith, low, long)

  pub is_plan : (jobs : List Job) (cycles order : List ℕ) (q : Plan) → AreJobsOf forms p insns jobs → AreCycles jobs cycles → IsOrder cycles order → q.insns ≡ in_order insns order → q.cycles ≡ in_order (with_cycles insns cycles) order → IsPlan forms p insns q
  is_plan jobs cycles order q of places is puts tells = record {
    taken = of.taken;
    cycles = cycles;
    order = order;
    takes = of.takes;
    placed = subst (λ (js : List Job). AreCycles js cycles) of.jobs_are places;
    ordered = is;
    puts = puts;
    tells = tells;
  }

  -- what holds of the instructions in their new order
  pub plan_keeps : (q : Plan) (is : IsPlan forms p insns q) → IsKept forms p insns q is
  plan_keeps q is =
      let are = can_place forms p lawful insns few is.taken is.takes in
      let both = keep_dependences insns is.taken is.cycles is.order are is.placed is.ordered in
      record { spaced = both.0; ahead = both.1; units = take_units (jobs_of insns is.taken) is.cycles are is.placed }

pub plans_keep : PlansKeep
plans_keep forms p insns q lawful few is = plan_keeps forms p lawful insns few q is
