-- The next job: one place more, and what holds of it.
use Rattle.std.proofs.Common.{◌≡◌, ℕ, ◌+◌, ◌<◌, Bool, true, false, not, List, [], ◌∷◌, Option, Some, None, cond, length, drop, get_or, refl, sym, ap, subst, ◌∙◌}
use Rattle.std.specs.Prelude.{nat_lt}
use Rattle.std.specs.List.{list_all}
use Rattle.std.proofs.lemmas.Bool.{and_parts}
use Rattle.std.proofs.lemmas.List.{at_drop_more}
use Rattle.job_order.specs.declared.job.Job.{Job}
use Rattle.job_order.specs.declared.placed.Placed.{Placed}
use Rattle.job_order.specs.Order.{is_placed, is_ready, higher, next_from}

module _ (s : Placed) (hs : List ℕ) (jobs : List Job) (place : ℕ) (job : Job) (within : place < length jobs) (is : job ≡ get_or jobs place job) where
  here : next_from s hs place (drop place jobs) ≡ next_from s hs place (job ∷ drop (place + 1) jobs)
  here = at_drop_more (next_from s hs place) jobs place job within ∙ ap (λ (j : Job). next_from s hs place (j ∷ drop (place + 1) jobs)) (sym is)

  pub next_more : (last : Option ℕ) → is_ready s place job ≡ true → next_from s hs (place + 1) (drop (place + 1) jobs) ≡ last → next_from s hs place (drop place jobs) ≡ Some (higher hs place last)
  next_more last ready so_far = here ∙ rw ready (ap (λ (o : Option ℕ). Some (higher hs place o)) so_far)

  pub next_not : (last : Option ℕ) → is_ready s place job ≡ false → next_from s hs (place + 1) (drop (place + 1) jobs) ≡ last → next_from s hs place (drop place jobs) ≡ last
  next_not last ready so_far = here ∙ rw ready so_far

-- ---- what is next is ready

ready_unplaced : (s : Placed) (k : ℕ) (j : Job) → is_ready s k j ≡ true → is_placed s k ≡ false
ready_unplaced s k j e =
    let parts = and_parts (not (is_placed s k)) (list_all (λ a. is_placed s a.job) j.asks) e in
    let go : (b : Bool) → not b ≡ true → b ≡ false = λ b. elim b as (λ b. not b ≡ true → b ≡ false) [ true ↦ λ h. sym h | false ↦ λ h. refl ] in
    go (is_placed s k) parts.0

higher_unplaced : (s : Placed) (hs : List ℕ) (k place : ℕ) (o : Option ℕ) → is_placed s k ≡ false → ((p : ℕ) → o ≡ Some p → is_placed s p ≡ false) → higher hs k o ≡ place → is_placed s place ≡ false
higher_unplaced s hs k place None here rest e = subst (λ (p : ℕ). is_placed s p ≡ false) e here
higher_unplaced s hs k place (Some other) here rest e =
    let go : (b : Bool) → cond b other k ≡ place → is_placed s place ≡ false =
    λ b. elim b as (λ b. cond b other k ≡ place → is_placed s place ≡ false) [ true ↦ λ h. subst (λ (p : ℕ). is_placed s p ≡ false) h (rest other refl) | false ↦ λ h. subst (λ (p : ℕ). is_placed s p ≡ false) h here ] in
    go (nat_lt (get_or hs k 0) (get_or hs other 0)) e

pub next_unplaced : (s : Placed) (hs : List ℕ) (k place : ℕ) (js : List Job) → next_from s hs k js ≡ Some place → is_placed s place ≡ false
next_unplaced s hs k place [] e = absurd (cc)
next_unplaced s hs k place (j ∷ js) e =
    let rest : (p : ℕ) → next_from s hs (k + 1) js ≡ Some p → is_placed s p ≡ false = λ p h. next_unplaced s hs (k + 1) p js h in
    let go : (b : Bool) → is_ready s k j ≡ b → cond b (Some (higher hs k (next_from s hs (k + 1) js))) (next_from s hs (k + 1) js) ≡ Some place → is_placed s place ≡ false =
    λ b. elim b as (λ b. is_ready s k j ≡ b → cond b (Some (higher hs k (next_from s hs (k + 1) js))) (next_from s hs (k + 1) js) ≡ Some place → is_placed s place ≡ false) [
      | true ↦ λ ready h. higher_unplaced s hs k place (next_from s hs (k + 1) js) (ready_unplaced s k j ready) rest (let same : higher hs k (next_from s hs (k + 1) js) ≡ place = cc in same)
      | false ↦ λ ready h. rest place h
    ] in
    go (is_ready s k j) refl e
