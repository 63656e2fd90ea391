-- Slots: one thing more that a job depends on, one cycle more, and how far a slot may be.
use Rattle.std.proofs.Common.{◌≡◌, ℕ, zero, suc, ◌+◌, ◌<◌, ◌≤◌, max, Bool, true, false, inl, inr, List, [], ◌∷◌, Some, None, cond, find, length, drop, get_or, refl, sym, ap, subst, ◌∙◌, arith}
use Rattle.std.specs.List.{AllByRecursion}
use Rattle.std.proofs.lemmas.Bool.{cases_eq, cases_lt}
use Rattle.std.proofs.lemmas.List.{drop_more, drop_all}
use Rattle.dfa_ways.specs.Ways.{Way, Ways}
use Rattle.rtx_tree.specs.Limit.{most_latency}
use Rattle.job_order.specs.declared.job.Ask.{Ask}
use Rattle.job_order.specs.declared.job.Job.{Job}
use Rattle.job_order.specs.declared.placed.Placed.{Placed}
use Rattle.job_order.specs.Jobs.{IsAsk}
use Rattle.job_order.specs.Slots.{is_free, free_way, late_for, IsSlot}
use Rattle.job_order.proofs.UnitLaws.{free_past}

-- what holds of all holds of one
pub one_of_all : {X : Type 0} (P : X → Type 0) (xs : List X) (i : ℕ) (x : X) → AllByRecursion P xs → i < length xs → x ≡ get_or xs i x → P x
one_of_all P [] i x all h is = absurd (omega arith)
one_of_all P (y ∷ xs) zero x all h is = subst P (sym is) all.0
one_of_all P (y ∷ xs) (suc i) x all h is = one_of_all P xs i x all.1 (omega arith) is

-- ---- late enough

pub late_more : (cycles : List ℕ) (asks : List Ask) (i late all : ℕ) (ask : Ask) → i < length asks → ask ≡ get_or asks i ask → max late (late_for cycles (drop i asks)) ≡ all
    → max (max late (get_or cycles ask.job 0 + ask.weight)) (late_for cycles (drop (i + 1) asks)) ≡ all
late_more cycles asks i late all ask within is so_far =
    let more : drop i asks ≡ ask ∷ drop (i + 1) asks = drop_more asks i ask within ∙ ap (λ (a : Ask). a ∷ drop (i + 1) asks) (sym is) in
    let here : late_for cycles (drop i asks) ≡ max (get_or cycles ask.job 0 + ask.weight) (late_for cycles (drop (i + 1) asks)) = ap (late_for cycles) more in
    omega (arith, here, so_far)

pub late_all : (cycles : List ℕ) (asks : List Ask) (i late all : ℕ) → length asks ≤ i → max late (late_for cycles (drop i asks)) ≡ all → late ≡ all
late_all cycles asks i late all end so_far =
    let none : late_for cycles (drop i asks) ≡ 0 = ap (late_for cycles) (drop_all i asks end) in
    omega (arith, none, so_far)

pub late_near : (place most : ℕ) (cycles : List ℕ) (asks : List Ask) → AllByRecursion (IsAsk place) asks → place ≤ length cycles → ((k : ℕ) → k < length cycles → get_or cycles k 0 ≤ most) → late_for cycles asks ≤ most + most_latency
late_near place most cycles [] all within near = omega arith
late_near place most cycles (a ∷ asks) all within near =
    let before : a.job < place = all.0.before in
    let light : a.weight ≤ most_latency = all.0.light in
    let in_cycles : a.job < length cycles = omega arith in
    let here : get_or cycles a.job 0 ≤ most = near a.job in_cycles in
    let rest : late_for cycles asks ≤ most + most_latency = late_near place most cycles asks all.1 within near in
    omega arith

-- ---- free

none_some : {A : Type 0} (x : A) → None ≡ Some x → ⊥
none_some x e = cc

-- where nothing is taken the first way is free
pub free_at_last : (taken : List ℕ) (cycle : ℕ) (ways : Ways) → 0 < length ways → free_way taken cycle ways ≡ None → cycle < length taken
free_at_last taken cycle [] some e = absurd (omega arith)
free_at_last taken cycle (way ∷ ways) some e =
    elim (cases_lt cycle (length taken)) as (λ s. cycle < length taken) [
      | inl h ↦ h
      | inr h ↦ let free : is_free taken cycle way ≡ true = free_past taken cycle way (omega arith) in absurd (none_some way (sym e ∙ rw free refl))
    ]

pub least_more : (placed : Placed) (job : Job) (cycle : ℕ) → ((other : ℕ) → late_for placed.cycles job.asks ≤ other → other < cycle → free_way placed.taken other job.ways ≡ None)
    → free_way placed.taken cycle job.ways ≡ None → (other : ℕ) → late_for placed.cycles job.asks ≤ other → other < cycle + 1 → free_way placed.taken other job.ways ≡ None
least_more placed job cycle least here other late h =
    elim (cases_eq other cycle) as (λ s. free_way placed.taken other job.ways ≡ None) [
      | inl same ↦ ap (λ (c : ℕ). free_way placed.taken c job.ways) same ∙ here
      | inr apart ↦ least other late (omega arith)
    ]

-- ---- how far a slot may be

pub slot_near : (placed : Placed) (job : Job) (cycle : ℕ) (way : Way) → 0 < length job.ways → IsSlot placed job cycle way → cycle ≤ max (late_for placed.cycles job.asks) (length placed.taken)
slot_near placed job cycle way some slot =
    let last : ℕ = max (late_for placed.cycles job.asks) (length placed.taken) in
    elim (cases_lt last cycle) as (λ s. cycle ≤ last) [
      | inl h ↦ let late : late_for placed.cycles job.asks ≤ last = omega arith in
          let room : last < length placed.taken = free_at_last placed.taken last job.ways some (slot.least last late h) in absurd (omega arith)
      | inr h ↦ omega arith
    ]

-- the way of a slot is one of the job's
pub found_is : (P : Way → Type 0) (p : Way → Bool) (ways : Ways) (way : Way) → AllByRecursion P ways → find p ways ≡ Some way → P way
found_is P p [] way all e = absurd (none_some way e)
found_is P p (w ∷ ways) way all e =
    let go : (b : Bool) → cond b (Some w) (find p ways) ≡ Some way → P way =
    λ b. elim b as (λ b. cond b (Some w) (find p ways) ≡ Some way → P way) [ true ↦ λ h. let same : w ≡ way = cc in subst P same all.0 | false ↦ λ h. found_is P p ways way all.1 h ] in
    go (p w) e
