-- Runs by their steps.
use Rattle.std.proofs.Common.{◌≡◌, ℕ, suc, ◌+◌, ◌-◌, ◌<◌, arith, true, false, if◌then◌else◌, sym, ap, subst, ◌∙◌, Result, IfOk}
use Rattle.rtx_tree.specs.declared.function.Function.{Function}
use Rattle.rtx_tree.specs.declared.machine.World.{World}
use Rattle.rtl_step.specs.declared.step.State.{State}
use Rattle.rtl_step.specs.declared.step.StepEnd.{StepEnd}
use Rattle.rtl_step.specs.Step.{step}
use Rattle.func_run.specs.declared.outcome.Outcome.{Outcome}
use Rattle.func_run.specs.Run.{goes_on, ended, go_on, run}

-- what is said of an answer's value is said of an equal one
pub same_answer : {E : Type 0} (r : Result Outcome E) (a b : Outcome) → a ≡ b → IfOk r (λ o. o ≡ a) → IfOk r (λ o. o ≡ b)
same_answer r a b same = subst (λ (x : Outcome). IfOk r (λ o. o ≡ x)) same

module _ (world : World) (f : Function) where
  -- one step of a run
  pub run_step : (n : ℕ) (s : State) (e : StepEnd) (s' : State) → (e, s') ≡ step world f s → run world f (suc n) s ≡ go_on f e s' (run world f n)
  run_step n s e s' is = ap (λ r. go_on f r.0 r.1 (run world f n)) (sym is)

  pub run_turn : (n i : ℕ) (s s' : State) (e : StepEnd) (goal : Outcome) → i < n → (e, s') ≡ step world f s → run world f (n - i) s ≡ goal → go_on f e s' (run world f (n - (i + 1))) ≡ goal
  run_turn n i s s' e goal less is so_far =
      let left : n - i ≡ suc (n - (i + 1)) = omega arith in
      sym (run_step (n - (i + 1)) s e s' is) ∙ (ap (λ m. run world f m s) (sym left) ∙ so_far)

  pub run_goes : (n i : ℕ) (s s' : State) (e : StepEnd) (goal : Outcome) → i < n → goes_on e ≡ true → (e, s') ≡ step world f s → run world f (n - i) s ≡ goal → run world f (n - (i + 1)) s' ≡ goal
  run_goes n i s s' e goal less goes is so_far =
      sym (ap (λ b. if b then run world f (n - (i + 1)) s' else ended f e s') goes) ∙ run_turn n i s s' e goal less is so_far

  pub run_ends : (n i : ℕ) (s s' : State) (e : StepEnd) (goal : Outcome) → i < n → goes_on e ≡ false → (e, s') ≡ step world f s → run world f (n - i) s ≡ goal → ended f e s' ≡ goal
  run_ends n i s s' e goal less ends is so_far =
      sym (ap (λ b. if b then run world f (n - (i + 1)) s' else ended f e s') ends) ∙ run_turn n i s s' e goal less is so_far
