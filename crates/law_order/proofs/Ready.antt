-- The job that is placed next is ready, and where none is, all are placed.
use Rattle.std.proofs.Common.{◌≡◌, ℕ, zero, suc, ◌+◌, ◌<◌, ◌≤◌, Bool, true, false, not, inl, inr, List, [], ◌∷◌, Option, Some, None, cond, length, get_or, refl, sym, ap, subst, ◌∙◌, ◌&&◌, arith}
use Rattle.std.specs.Prelude.{nat_lt, slice_get}
use Rattle.std.specs.List.{list_all, AllByRecursion}
use Rattle.std.proofs.lemmas.Bool.{and_parts, cases_eq}
use Rattle.std.proofs.lemmas.Option.{slice_get_within, get_or_from_slice_get}
use Rattle.job_order.specs.declared.job.Ask.{Ask}
use Rattle.job_order.specs.declared.job.Job.{Job}
use Rattle.job_order.specs.declared.placed.Placed.{Placed}
use Rattle.job_order.specs.Jobs.{IsAsk, IsJob, AreJobs, heights}
use Rattle.job_order.specs.Order.{is_placed, is_ready, higher, next_from, next}

pub none_some : {A : Type 0} (x : A) → None ≡ Some x → ⊥
none_some x e = cc

pub some_is : {A : Type 0} (x y : A) → Some x ≡ Some y → x ≡ y
some_is x y e = cc

pub true_false : true ≡ false → ⊥
true_false e = cc

-- a job of some, of which the first stands at a place, that is ready
pub record HasReady (s : Placed) (k : ℕ) (js : List Job) (place : ℕ) : Type 0 where
  pub at : ℕ
  pub job : Job
  pub is : place ≡ k + at
  pub there : slice_get js at ≡ Some job
  pub ready : is_ready s place job ≡ true

later : (s : Placed) (k : ℕ) (j : Job) (js : List Job) (place : ℕ) → HasReady s (k + 1) js place → HasReady s k (j ∷ js) place
later s k j js place h = record { at = suc h.at; job = h.job; is = let e : place ≡ k + 1 + h.at = h.is in omega arith; there = h.there; ready = h.ready }

first : (s : Placed) (k place : ℕ) (j : Job) (js : List Job) → is_ready s k j ≡ true → k ≡ place → HasReady s k (j ∷ js) place
first s k place j js here e = record { at = 0; job = j; is = omega arith; there = refl; ready = subst (λ (p : ℕ). is_ready s p j ≡ true) e here }

of_higher : (s : Placed) (hs : List ℕ) (k place : ℕ) (j : Job) (js : List Job) (o : Option ℕ) → is_ready s k j ≡ true → ((p : ℕ) → o ≡ Some p → HasReady s (k + 1) js p) → higher hs k o ≡ place → HasReady s k (j ∷ js) place
of_higher s hs k place j js None here rest e = first s k place j js here e
of_higher s hs k place j js (Some other) here rest e =
    let go : (b : Bool) → cond b other k ≡ place → HasReady s k (j ∷ js) place =
    λ b. elim b as (λ b. cond b other k ≡ place → HasReady s k (j ∷ js) place) [
      | true ↦ λ h. later s k j js place (rest place (ap (λ (p : ℕ). Some p) h))
      | false ↦ λ h. first s k place j js here h
    ] in
    go (nat_lt (get_or hs k 0) (get_or hs other 0)) e

pub next_has : (s : Placed) (hs : List ℕ) (k place : ℕ) (js : List Job) → next_from s hs k js ≡ Some place → HasReady s k js place
next_has s hs k place [] e = absurd (none_some place e)
next_has s hs k place (j ∷ js) e =
    let rest : (p : ℕ) → next_from s hs (k + 1) js ≡ Some p → HasReady s (k + 1) js p = λ p h. next_has s hs (k + 1) p js h in
    let go : (b : Bool) → is_ready s k j ≡ b → cond b (Some (higher hs k (next_from s hs (k + 1) js))) (next_from s hs (k + 1) js) ≡ Some place → HasReady s k (j ∷ js) place =
    λ b. elim b as (λ b. is_ready s k j ≡ b → cond b (Some (higher hs k (next_from s hs (k + 1) js))) (next_from s hs (k + 1) js) ≡ Some place → HasReady s k (j ∷ js) place) [
      | true ↦ λ ready h. of_higher s hs k place j js (next_from s hs (k + 1) js) ready rest (some_is (higher hs k (next_from s hs (k + 1) js)) place h)
      | false ↦ λ ready h. later s k j js place (rest place h)
    ] in
    go (is_ready s k j) refl e

-- the next job is ready
pub next_ready : (jobs : List Job) (s : Placed) (k : ℕ) (j : Job) → next jobs s ≡ Some k → slice_get jobs k ≡ Some j → is_ready s k j ≡ true
next_ready jobs s k j e at =
    let h = next_has s (heights jobs) 0 k jobs e in
    let place : h.at ≡ k = let i : k ≡ 0 + h.at = h.is in omega arith in
    let same : h.job ≡ j = some_is h.job j (sym h.there ∙ ap (slice_get jobs) place ∙ at) in
    subst (λ (x : Job). is_ready s k x ≡ true) same h.ready

-- so it is not placed
pub ready_new : (s : Placed) (k : ℕ) (j : Job) → is_ready s k j ≡ true → is_placed s k ≡ false
ready_new s k j e =
    let parts = and_parts (not (is_placed s k)) (list_all (λ a. is_placed s a.job) j.asks) e in
    let go : (b : Bool) → not b ≡ true → b ≡ false = λ b. elim b as (λ b. not b ≡ true → b ≡ false) [ true ↦ λ h. sym h | false ↦ λ h. refl ] in
    go (is_placed s k) parts.0

-- and each that it depends on is
pub ready_asks : (s : Placed) (k : ℕ) (j : Job) → is_ready s k j ≡ true → list_all (λ a. is_placed s a.job) j.asks ≡ true
ready_asks s k j e = (and_parts (not (is_placed s k)) (list_all (λ a. is_placed s a.job) j.asks) e).1

-- ---- where none is next

-- where none of some jobs is next, the first is not ready
first_not : (s : Placed) (hs : List ℕ) (k : ℕ) (x : Job) (js : List Job) → next_from s hs k (x ∷ js) ≡ None → (is_ready s k x ≡ false) × (next_from s hs (k + 1) js ≡ None)
first_not s hs k x js e =
    let go : (b : Bool) → is_ready s k x ≡ b → cond b (Some (higher hs k (next_from s hs (k + 1) js))) (next_from s hs (k + 1) js) ≡ None → (is_ready s k x ≡ false) × (next_from s hs (k + 1) js ≡ None) =
    λ b. elim b as (λ b. is_ready s k x ≡ b → cond b (Some (higher hs k (next_from s hs (k + 1) js))) (next_from s hs (k + 1) js) ≡ None → (is_ready s k x ≡ false) × (next_from s hs (k + 1) js ≡ None)) [
      | true ↦ λ ready h. absurd (none_some (higher hs k (next_from s hs (k + 1) js)) (sym h))
      | false ↦ λ ready h. (ready, h)
    ] in
    go (is_ready s k x) refl e

none_ready : (s : Placed) (hs : List ℕ) (k : ℕ) (js : List Job) → next_from s hs k js ≡ None → (i : ℕ) (j : Job) → slice_get js i ≡ Some j → is_ready s (k + i) j ≡ false
none_ready s hs k [] e i j at = absurd (none_some j at)
none_ready s hs k (x ∷ js) e zero j at =
    let same : x ≡ j = some_is x j at in
    let here : k ≡ k + 0 = omega arith in
    subst (λ (p : ℕ). is_ready s p j ≡ false) here (subst (λ (y : Job). is_ready s k y ≡ false) same (first_not s hs k x js e).0)
none_ready s hs k (x ∷ js) e (suc i) j at =
    let here : k + 1 + i ≡ k + suc i = omega arith in
    subst (λ (p : ℕ). is_ready s p j ≡ false) here (none_ready s hs (k + 1) js (first_not s hs k x js e).1 i j at)

asks_placed : (s : Placed) (n : ℕ) (asks : List Ask) → AllByRecursion (IsAsk n) asks → ((p : ℕ) → p < n → is_placed s p ≡ true) → list_all (λ a. is_placed s a.job) asks ≡ true
asks_placed s n [] all before = refl
asks_placed s n (a ∷ asks) all before = rw (before a.job all.0.before) (asks_placed s n asks all.1 before)

-- a job whose asks are placed is placed, where none is ready
placed_if : (s : Placed) (k : ℕ) (j : Job) → is_ready s k j ≡ false → list_all (λ a. is_placed s a.job) j.asks ≡ true → is_placed s k ≡ true
placed_if s k j unready asks =
    let go : (b : Bool) → (not b && list_all (λ a. is_placed s a.job) j.asks) ≡ false → b ≡ true =
    λ b. elim b as (λ b. (not b && list_all (λ a. is_placed s a.job) j.asks) ≡ false → b ≡ true) [ true ↦ λ h. refl | false ↦ λ h. absurd (true_false (sym asks ∙ h)) ] in
    go (is_placed s k) unready

-- what holds of the job at a place
pub job_there : (jobs : List Job) (k : ℕ) (j : Job) → AreJobs jobs → slice_get jobs k ≡ Some j → IsJob k j
job_there jobs k j are at = subst (IsJob k) (get_or_from_slice_get jobs k j j at) (are.each k j (slice_get_within jobs k j at))

pub some_job : (jobs : List Job) (k : ℕ) → k < length jobs → (j : Job) × (slice_get jobs k ≡ Some j)
some_job [] k h = absurd (omega arith)
some_job (j ∷ jobs) zero h = (j, refl)
some_job (j ∷ jobs) (suc k) h = some_job jobs k (omega arith)

module _ (jobs : List Job) (s : Placed) (are : AreJobs jobs) (none : next jobs s ≡ None) where
  placed_here : (n : ℕ) → n < length jobs → ((q : ℕ) → q < n → is_placed s q ≡ true) → is_placed s n ≡ true
  placed_here n h before =
      let one = some_job jobs n h in
      let job : IsJob n one.0 = job_there jobs n one.0 are one.1 in
      let zeroth : 0 + n ≡ n = omega arith in
      let unready : is_ready s n one.0 ≡ false = subst (λ (p : ℕ). is_ready s p one.0 ≡ false) zeroth (none_ready s (heights jobs) 0 jobs none n one.0 one.1) in
      placed_if s n one.0 unready (asks_placed s n one.0.asks job.asks before)

  placed_below : (n : ℕ) → n ≤ length jobs → (p : ℕ) → p < n → is_placed s p ≡ true
  placed_below zero h p less = absurd (omega arith)
  placed_below (suc n) h p less =
      let before : (q : ℕ) → q < n → is_placed s q ≡ true = placed_below n (omega arith) in
      elim (cases_eq p n) as (λ c. is_placed s p ≡ true) [
        | inl e ↦ subst (λ (q : ℕ). is_placed s q ≡ true) (sym e) (placed_here n (omega arith) before)
        | inr e ↦ before p (omega arith)
      ]

  -- where none is next all are placed
  pub all_placed : (p : ℕ) → p < length jobs → is_placed s p ≡ true
  all_placed p h = placed_below (length jobs) (omega arith) p h
