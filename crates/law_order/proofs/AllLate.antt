-- Jobs come late enough: each that is placed, at each step.
use Rattle.std.proofs.Common.{◌≡◌, ℕ, ◌+◌, ◌<◌, ◌≤◌, true, false, inl, inr, List, [], ◌∷◌, Some, length, get_or, set, sym, ap, subst, ◌∙◌, arith}
use Rattle.std.specs.Prelude.{slice_get}
use Rattle.std.specs.List.{list_all, AllByRecursion}
use Rattle.std.proofs.lemmas.Bool.{cases_eq, and_parts}
use Rattle.std.proofs.lemmas.List.{length-set, length-replicate, get_or-set_same, get_or-set_other, get_or-replicate}
use Rattle.std.proofs.lemmas.Option.{slice_get_within}
use Rattle.dfa_ways.specs.Ways.{Way}
use Rattle.job_order.specs.declared.job.Ask.{Ask}
use Rattle.job_order.specs.declared.job.Job.{Job}
use Rattle.job_order.specs.declared.placed.Placed.{Placed}
use Rattle.job_order.specs.Jobs.{AreJobs}
use Rattle.job_order.specs.Slots.{late_for, IsSlot}
use Rattle.job_order.specs.Order.{is_placed, is_ready, none_placed, placed_at, Places, done, one}
use Rattle.law_order.specs.Late.{IsLate, HaveCycles, ComeLate}
use Rattle.law_order.proofs.Ready.{next_ready, ready_new, ready_asks, all_placed, some_is, true_false}

-- a job is asked of that is placed, and early enough
pub record IsKept (s : Placed) (place : ℕ) (a : Ask) : Type 0 where
  pub placed : is_placed s a.job ≡ true
  pub late : IsLate s.cycles place a

-- of those that are placed each is late enough
pub record AreKept (jobs : List Job) (s : Placed) : Type 0 where
  pub cycles : length s.cycles ≡ length jobs
  pub marks : length s.are_placed ≡ length jobs
  pub kept : (place : ℕ) (job : Job) → slice_get jobs place ≡ Some job → is_placed s place ≡ true → AllByRecursion (IsKept s place) job.asks

-- ---- none

pub none_kept : (jobs : List Job) → AreKept jobs (none_placed (length jobs))
none_kept jobs = record {
  cycles = length-replicate (length jobs) 0;
  marks = length-replicate (length jobs) false;
  kept = λ place job at placed. absurd (true_false (sym placed ∙ get_or-replicate (length jobs) place false false (slice_get_within jobs place job at)));
}

-- ---- one more

module _ (jobs : List Job) (s : Placed) (k : ℕ) (j : Job) (cycle : ℕ) (way : Way) (old : AreKept jobs s) (at : slice_get jobs k ≡ Some j) (slot : IsSlot s j cycle way) (ready : is_ready s k j ≡ true) where
  new : Placed
  new = placed_at s k cycle way

  within : k < length jobs
  within = slice_get_within jobs k j at

  -- what is placed is not the new one
  apart : (p : ℕ) → is_placed s p ≡ true → p ≡ k → ⊥
  apart p placed e = true_false (sym placed ∙ ap (is_placed s) e ∙ ready_new s k j ready)

  stays : (p : ℕ) → is_placed s p ≡ true → is_placed (placed_at s k cycle way) p ≡ true
  stays p placed = get_or-set_other s.are_placed k p true false (apart p placed) ∙ placed

  cycle_stays : (p : ℕ) → is_placed s p ≡ true → get_or (set s.cycles k cycle) p 0 ≡ get_or s.cycles p 0
  cycle_stays p placed = get_or-set_other s.cycles k p cycle 0 (apart p placed)

  -- what an old one asks
  old_asks : (place : ℕ) (asks : List Ask) → is_placed s place ≡ true → AllByRecursion (IsKept s place) asks → AllByRecursion (IsKept (placed_at s k cycle way) place) asks
  old_asks place [] placed all = tt
  old_asks place (a ∷ asks) placed all =
      let here : get_or s.cycles a.job 0 + a.weight ≤ get_or s.cycles place 0 = all.0.late in
      let job : get_or (set s.cycles k cycle) a.job 0 ≡ get_or s.cycles a.job 0 = cycle_stays a.job all.0.placed in
      let own : get_or (set s.cycles k cycle) place 0 ≡ get_or s.cycles place 0 = cycle_stays place placed in
      (record { placed = stays a.job all.0.placed; late = omega (arith, here, job, own) }, old_asks place asks placed all.1)

  -- what the new one asks
  new_asks : (asks : List Ask) → list_all (λ a. is_placed s a.job) asks ≡ true → late_for s.cycles asks ≤ cycle → AllByRecursion (IsKept (placed_at s k cycle way) k) asks
  new_asks [] placed late = tt
  new_asks (a ∷ asks) placed late =
      let parts = and_parts (is_placed s a.job) (list_all (λ a. is_placed s a.job) asks) placed in
      let job : get_or (set s.cycles k cycle) a.job 0 ≡ get_or s.cycles a.job 0 = cycle_stays a.job parts.0 in
      let own : get_or (set s.cycles k cycle) k 0 ≡ cycle = get_or-set_same s.cycles k cycle 0 (let l = old.cycles in let h = within in omega (arith, l, h)) in
      (record { placed = stays a.job parts.0; late = omega (arith, job, own) }, new_asks asks parts.1 (omega arith))

  more_here : (job : Job) → slice_get jobs k ≡ Some job → AllByRecursion (IsKept (placed_at s k cycle way) k) job.asks
  more_here job there =
      let same : j ≡ job = some_is j job (sym at ∙ there) in
      subst (λ (x : Job). AllByRecursion (IsKept (placed_at s k cycle way) k) x.asks) same (new_asks j.asks (ready_asks s k j ready) slot.late)

  pub kept_more : AreKept jobs (placed_at s k cycle way)
  kept_more = record {
    cycles = length-set s.cycles k cycle ∙ old.cycles;
    marks = length-set s.are_placed k true ∙ old.marks;
    kept = λ place job there placed. elim (cases_eq place k) as (λ c. AllByRecursion (IsKept (placed_at s k cycle way) place) job.asks) [
      | inl e ↦ subst (λ (p : ℕ). AllByRecursion (IsKept (placed_at s k cycle way) p) job.asks) (sym e) (more_here job (ap (slice_get jobs) (sym e) ∙ there))
      | inr e ↦ let was : is_placed s place ≡ true = sym (get_or-set_other s.are_placed k place true false e) ∙ placed in old_asks place job.asks was (old.kept place job there was)
    ];
  }

-- ---- all

late_of : (s : Placed) (place : ℕ) (asks : List Ask) → AllByRecursion (IsKept s place) asks → AllByRecursion (IsLate s.cycles place) asks
late_of s place [] all = tt
late_of s place (a ∷ asks) all = (all.0.late, late_of s place asks all.1)

all_late : (jobs : List Job) → AreJobs jobs → (s : Placed) (cycles : List ℕ) → Places jobs s cycles → AreKept jobs s → HaveCycles jobs cycles
all_late jobs are _ _ (done s none) kept = record {
  all = kept.cycles;
  late = λ place job at. late_of s place job.asks (kept.kept place job at (all_placed jobs s are none place (slice_get_within jobs place job at)));
}
all_late jobs are _ _ (one s k j cycle way cycles is at slot rest) kept =
    all_late jobs are (placed_at s k cycle way) cycles rest (kept_more jobs s k j cycle way kept at slot (next_ready jobs s k j is at))

pub come_late : ComeLate
come_late jobs cycles are places = all_late jobs are (none_placed (length jobs)) cycles places (none_kept jobs)
