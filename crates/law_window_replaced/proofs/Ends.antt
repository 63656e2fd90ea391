-- Where runs end: a run that has ended past its last instruction is over, and it is the same for all of its lengths.
use Rattle.std.proofs.Common.{◌≡◌, ℕ, zero, suc, if◌then◌else◌, Bool, true, false, ap, ◌∙◌}
use Rattle.rtx_tree.specs.declared.machine.World.{World}
use Rattle.rtx_tree.specs.declared.function.Function.{Function}
use Rattle.rtl_step.specs.Step.{Stepped, step}
use Rattle.rtl_step.specs.declared.step.State.{State}
use Rattle.rtl_step.specs.declared.step.StepEnd.{StepEnd}
use Rattle.rtl_step.specs.declared.step.StepEnd.TheVariants as ends
use Rattle.func_run.specs.Run.{run, ended, goes_on, IsRunning}
use Rattle.func_run.specs.declared.outcome.Outcome.{Outcome}
use Rattle.func_run.specs.declared.outcome.Outcome.TheVariants.{Undefined, Running, Asked, Returned}
use Rattle.law_function_kept.specs.Ends.{is_past, ends_past}
use Rattle.law_function_kept.specs.Outcomes.{SameOutcome}

-- what comes to the same goes on, too
pub runs_too : (x y : Outcome) → SameOutcome x y → IsRunning x → IsRunning y
runs_too (Running a) (Running b) same is = tt
runs_too (Running a) (Asked b) same is = absurd same
runs_too (Running a) (Returned value memory b kept) same is = absurd same
runs_too (Running a) Undefined same is = absurd same
runs_too (Asked a) y same is = absurd is
runs_too (Returned value memory a kept) y same is = absurd is
runs_too Undefined y same is = absurd is

module _ (world : World) (f : Function) where
  ended_not : (e : StepEnd) (s : State) → IsRunning (ended f e s) → ⊥
  ended_not ends.Next s is = is
  ended_not ends.Jumped s is = is
  ended_not ends.Called s is = is
  ended_not ends.Returned s is = is
  ended_not ends.Asked s is = is
  ended_not ends.Undefined s is = is

  over_by : (b past : Bool) (n : ℕ) (e : StepEnd) (s : State) → (if b then ends_past world f n s else past) ≡ true →
      IsRunning (if b then run world f n s else ended f e s) → (ends_past world f n s ≡ true → IsRunning (run world f n s) → ⊥) → ⊥
  over_by true past n e s ends_there is later = later ends_there is
  over_by false past n e s ends_there is later = ended_not e s is

  -- a run that has ended past the last instruction goes on no more
  pub over : (n : ℕ) (s : State) → ends_past world f n s ≡ true → IsRunning (run world f n s) → ⊥
  over zero s ends_there is = let no : ⊥ = cc in no
  over (suc n) s ends_there is =
      over_by (goes_on (step world f s).0) (is_past f s) n (step world f s).0 (step world f s).1 ends_there is
      (over n (step world f s).1)

  once_by : (b past : Bool) (n m : ℕ) (e : StepEnd) (s : State) → (IsRunning (if b then run world f n s else ended f e s) → ⊥) →
      (if b then ends_past world f m s else past) ≡ true →
      ((IsRunning (run world f n s) → ⊥) → ends_past world f m s ≡ true → ends_past world f n s ≡ true) →
      (if b then ends_past world f n s else past) ≡ true
  once_by true past n m e s none ends_there later = later none ends_there
  once_by false past n m e s none ends_there later = ends_there

  -- a run that goes on no more ends there if some run from the state does
  pub once : (n m : ℕ) (s : State) → (IsRunning (run world f n s) → ⊥) → ends_past world f m s ≡ true → ends_past world f n s ≡ true
  once zero m s none ends_there = absurd (none tt)
  once (suc n) zero s none ends_there = absurd (let no : ⊥ = cc in no)
  once (suc n) (suc m) s none ends_there =
      once_by (goes_on (step world f s).0) (is_past f s) n m (step world f s).0 (step world f s).1 none ends_there
      (once n m (step world f s).1)

  -- ---- the states of a run

  pub data Reached (first : State) : State → Type 0 where
    here : Reached first first
    next : (s s' : State) (e : StepEnd) → Reached first s → step world f s ≡ (e, s') → goes_on e ≡ true → Reached first s'

  -- a run that ends there from one of them ends there from the first
  pub from_first : (first s : State) → Reached first s → (n : ℕ) → ends_past world f n s ≡ true →
      (m : ℕ) × (ends_past world f m first ≡ true)
  from_first first _ here n ends_there = (n, ends_there)
  from_first first _ (next s s' e before stepped on) n ends_there =
      from_first first s before (suc n)
      (ap (λ (x : Stepped). if goes_on x.0 then ends_past world f n x.1 else is_past f s) stepped ∙
      ap (λ b. if b then ends_past world f n s' else is_past f s) on ∙ ends_there)
