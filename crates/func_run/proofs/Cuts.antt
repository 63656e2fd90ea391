-- A run is cut in two.
use Rattle.std.proofs.Common.{◌≡◌, ℕ, zero, suc, ◌+◌, arith, Option, Some, None, refl, sym, ap, ◌∙◌}
use Rattle.std.specs.Prelude.{if◌then◌else◌}
use Rattle.rtx_tree.specs.declared.function.Function.{Function}
use Rattle.rtx_tree.specs.declared.machine.World.{World}
use Rattle.rtl_step.specs.declared.step.State.{State}
use Rattle.rtl_step.specs.declared.step.StepEnd.{StepEnd}
use Rattle.rtl_step.specs.declared.step.StepEnd.TheVariants.{Next, Jumped, Called, Returned, Asked, Undefined}
use Rattle.rtl_step.specs.Step.{Stepped, step}
use Rattle.func_run.specs.Run.{goes_on, go_on, run, taken_on, taken_from, state_after, run_on, taken_more, AreCut}

module _ (world : World) (f : Function) (n m : ℕ) where
  -- the state after a step that ends in some way and n more
  abbrev after : StepEnd → State → Option State
  after e s = if goes_on e then state_after world f n s else None

  -- the first step goes on or not
  outcome_step : (e : StepEnd) (s before : State) → run world f (n + m) s ≡ run_on world f n m s (state_after world f n s) →
      (let r : Stepped = (e, s) in step world f before ≡ r) → go_on f e s (run world f (n + m)) ≡ run_on world f (suc n) m before (after e s)
  outcome_step Next s before rest is = rest ∙ on (state_after world f n s)
    where
      on : (o : Option State) → run_on world f n m s o ≡ run_on world f (suc n) m before o
      on None = ap (λ r. go_on f r.0 r.1 (run world f n)) (sym is)
      on (Some t) = refl
  outcome_step Jumped s before rest is = rest ∙ on (state_after world f n s)
    where
      on : (o : Option State) → run_on world f n m s o ≡ run_on world f (suc n) m before o
      on None = ap (λ r. go_on f r.0 r.1 (run world f n)) (sym is)
      on (Some t) = refl
  outcome_step Called s before rest is = rest ∙ on (state_after world f n s)
    where
      on : (o : Option State) → run_on world f n m s o ≡ run_on world f (suc n) m before o
      on None = ap (λ r. go_on f r.0 r.1 (run world f n)) (sym is)
      on (Some t) = refl
  outcome_step Returned s before rest is = ap (λ r. go_on f r.0 r.1 (run world f n)) (sym is)
  outcome_step Asked s before rest is = ap (λ r. go_on f r.0 r.1 (run world f n)) (sym is)
  outcome_step Undefined s before rest is = ap (λ r. go_on f r.0 r.1 (run world f n)) (sym is)

  taken_step : (e : StepEnd) (s before : State) → taken_from world f (n + m) s ≡ taken_more world f n m s (state_after world f n s) →
      (let r : Stepped = (e, s) in step world f before ≡ r) → taken_on e s (taken_from world f (n + m)) ≡ taken_more world f (suc n) m before (after e s)
  taken_step Next s before rest is = rest ∙ on (state_after world f n s)
    where
      first : taken_from world f (suc n) before ≡ taken_from world f n s
      first = ap (λ r. taken_on r.0 r.1 (taken_from world f n)) is

      on : (o : Option State) → taken_more world f n m s o ≡ taken_more world f (suc n) m before o
      on None = sym first
      on (Some t) = ap (λ k. k + taken_from world f m t) (sym first)
  taken_step Jumped s before rest is = ap suc rest ∙ on (state_after world f n s)
    where
      first : taken_from world f (suc n) before ≡ suc (taken_from world f n s)
      first = ap (λ r. taken_on r.0 r.1 (taken_from world f n)) is

      on : (o : Option State) → suc (taken_more world f n m s o) ≡ taken_more world f (suc n) m before o
      on None = sym first
      on (Some t) = omega (arith, first)
  taken_step Called s before rest is = ap suc rest ∙ on (state_after world f n s)
    where
      first : taken_from world f (suc n) before ≡ suc (taken_from world f n s)
      first = ap (λ r. taken_on r.0 r.1 (taken_from world f n)) is

      on : (o : Option State) → suc (taken_more world f n m s o) ≡ taken_more world f (suc n) m before o
      on None = sym first
      on (Some t) = omega (arith, first)
  taken_step Returned s before rest is = ap (λ r. taken_on r.0 r.1 (taken_from world f n)) (sym is)
  taken_step Asked s before rest is = ap (λ r. taken_on r.0 r.1 (taken_from world f n)) (sym is)
  taken_step Undefined s before rest is = ap (λ r. taken_on r.0 r.1 (taken_from world f n)) (sym is)

pub are_cut : AreCut
are_cut world f zero m s = let same : 0 + m ≡ m = omega arith in
    let none : taken_from world f m s ≡ 0 + taken_from world f m s = omega arith in
    record {
      outcome = ap (λ k. run world f k s) same;
      taken_is = ap (λ k. taken_from world f k s) same ∙ none;
    }
are_cut world f (suc n) m s = let same : suc n + m ≡ suc (n + m) = omega arith in
    let r : Stepped = step world f s in
    let rest = are_cut world f n m r.1 in
    record {
      outcome = ap (λ k. run world f k s) same ∙ outcome_step world f n m r.0 r.1 s rest.outcome refl;
      taken_is = ap (λ k. taken_from world f k s) same ∙ taken_step world f n m r.0 r.1 s rest.taken_is refl;
    }
