-- Steps of a function that go on to the next instruction, one behind the other.
use Rattle.std.proofs.Common.{◌≡◌, ℕ, suc, if◌then◌else◌, refl, ap, ◌∙◌}
use Rattle.rtx_tree.specs.declared.function.Function.{Function}
use Rattle.rtx_tree.specs.declared.machine.World.{World}
use Rattle.rtl_step.specs.Step.{Stepped, step}
use Rattle.rtl_step.specs.declared.step.State.{State}
use Rattle.rtl_step.specs.declared.step.StepEnd.TheVariants.{Next}
use Rattle.func_run.specs.Run.{run, goes_on, go_on, taken_on, taken_from}
use Rattle.law_function_kept.specs.Ends.{is_past, ends_past}
use Rattle.law_window_replaced.proofs.law_window_lines.Simulation.{added}

module _ (world : World) (g : Function) where
  -- so many of them lead from one state to another
  pub data Steps : ℕ → State → State → Type 0 where
    stays : (t : State) → Steps 0 t t
    steps : (k : ℕ) (t t' t'' : State) → step world g t ≡ (Next, t') → Steps k t' t'' → Steps (suc k) t t''

  pub steps_on : (k j : ℕ) (t t' t'' : State) → Steps k t t' → Steps j t' t'' → Steps (added k j) t t''
  steps_on _ j _ _ t'' (stays t) later = later
  steps_on _ j _ _ t'' (steps k t t' final is rest) later = steps (added k j) t t' t'' is (steps_on k j t' final t'' rest later)

  -- what so many and some more come to, and how many jumps they take
  pub run_behind : (k n : ℕ) (t t' : State) → Steps k t t' → run world g (added k n) t ≡ run world g n t'
  run_behind _ n _ _ (stays t) = refl
  run_behind _ n _ _ (steps k t t' final is rest) =
      ap (λ (x : Stepped). go_on g x.0 x.1 (run world g (added k n))) is ∙ run_behind k n t' final rest

  pub taken_behind : (k n : ℕ) (t t' : State) → Steps k t t' → taken_from world g (added k n) t ≡ taken_from world g n t'
  taken_behind _ n _ _ (stays t) = refl
  taken_behind _ n _ _ (steps k t t' final is rest) =
      ap (λ (x : Stepped). taken_on x.0 x.1 (taken_from world g (added k n))) is ∙ taken_behind k n t' final rest

  -- they end nothing
  pub past_behind : (k n : ℕ) (t t' : State) → Steps k t t' → ends_past world g (added k n) t ≡ ends_past world g n t'
  past_behind _ n _ _ (stays t) = refl
  past_behind _ n _ _ (steps k t t' final is rest) =
      ap (λ (x : Stepped). if goes_on x.0 then ends_past world g (added k n) x.1 else is_past g t) is ∙ past_behind k n t' final rest
