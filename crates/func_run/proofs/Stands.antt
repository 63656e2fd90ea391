-- A run in which called functions see nothing stands as the run does, step by step.
use Rattle.std.proofs.Common.{◌≡◌, ℕ, ◌+◌, ◌-◌, ◌<◌, ◌≤◌, List, length, true, false, refl, sym, ap, ◌∙◌, arith}
use Rattle.rtx_tree.specs.declared.function.Function.{Function}
use Rattle.rtx_tree.specs.declared.machine.Start.{Start}
use Rattle.rtx_tree.specs.declared.machine.World.{World}
use Rattle.rtx_tree.specs.declared.machine.RangeAt.{RangeAt}
use Rattle.run_memory.specs.RunMemory.{visible}
use Rattle.rtl_step.specs.Step.{Stepped, step, result_of}
use Rattle.rtl_step.specs.declared.call.CallEvent.{CallEvent}
use Rattle.rtl_step.specs.declared.step.State.{State}
use Rattle.rtl_step.specs.declared.step.StepEnd.{StepEnd}
use Rattle.rtl_step.specs.declared.step.StepEnd.TheVariants.{Next, Jumped, Called, Returned, Asked, Undefined}
use Rattle.func_run.specs.declared.outcome.Outcome.{Outcome}
use Rattle.func_run.specs.declared.outcome.Standing.TheVariants as standings
use Rattle.func_run.specs.Run.{goes_on, ended, entry_of, run, run_of}
use Rattle.func_run.specs.Standing.{standing_of}
use Rattle.func_run.proofs.Runs.{run_goes, run_ends}
use Rattle.func_run.proofs.Unseen.{seen, StepsAlike, step_alike}

-- what is left to run from a state, with what the caller sees and with as many calls, comes to all
pub record Stands (world : World) (f : Function) (ranges : List RangeAt) (n : ℕ) (s : State) (all : Outcome) : Type 0 where
  pub calls : List CallEvent
  pub many : length calls ≡ length s.calls
  pub outcome : run world f n (seen s ranges calls) ≡ all

-- the end of a run is told of by the number of the calls
same_end : (f : Function) (e : StepEnd) (s : State) (ranges : List RangeAt) (calls : List CallEvent) → length calls ≡ length s.calls →
    standing_of (ended f e (seen s ranges calls)) ≡ standing_of (ended f e (record s { visible = ranges }))
same_end f Returned s ranges calls many = ap (λ n. standings.Returned (result_of f.result s.regs) (visible ranges s.memory) n) many
same_end f Asked s ranges calls many = ap (λ n. standings.Asked n) many
same_end f Next s ranges calls many = refl
same_end f Jumped s ranges calls many = refl
same_end f Called s ranges calls many = refl
same_end f Undefined s ranges calls many = refl

pub stands_first : (f : Function) (start : Start) (world : World) (n : ℕ) (s : State) (ranges : List RangeAt) → s ≡ entry_of start →
    Stands world f start.visible (n - 0) (record s { visible = ranges }) (run_of f start world n)
stands_first f start world n s ranges is =
    let none : n - 0 ≡ n = omega arith in
    record {
      calls = s.calls;
      many = refl;
      outcome = ap (λ (x : State). run world f (n - 0) (seen x start.visible x.calls)) is ∙ ap (λ m. run world f m (entry_of start)) none;
    }

module _ (world : World) (f : Function) (ranges : List RangeAt) (all : Outcome) where
  -- the same step of the run in which nothing is left out
  same_step : (s s' : State) (e : StepEnd) (calls : List CallEvent) → (e, s') ≡ step world f s → (alike : StepsAlike ranges (step world f s) (step world f (seen s ranges calls))) →
      (e, seen s' ranges alike.calls) ≡ step world f (seen s ranges calls)
  same_step s s' e calls is alike =
      let first : (e, seen s' ranges alike.calls) ≡ ((step world f s).0, seen (step world f s).1 ranges alike.calls) = ap (λ (r : Stepped). (r.0, seen r.1 ranges alike.calls)) is in
      let second : ((step world f s).0, seen (step world f s).1 ranges alike.calls) ≡ step world f (seen s ranges calls) = λ j. (sym alike.end j, sym alike.state j) in
      first ∙ second

  as_many : (s s' : State) (e : StepEnd) (calls : List CallEvent) → (e, s') ≡ step world f s → length calls ≡ length (step world f s).1.calls → length calls ≡ length s'.calls
  as_many s s' e calls is many = many ∙ ap (λ (r : Stepped). length r.1.calls) (sym is)

  pub stands_goes : (n i : ℕ) (s s' : State) (e : StepEnd) → i < n → goes_on e ≡ true → (e, s') ≡ step world f s → Stands world f ranges (n - i) s all → Stands world f ranges (n - (i + 1)) s' all
  stands_goes n i s s' e less goes is so_far =
      let alike : StepsAlike ranges (step world f s) (step world f (seen s ranges so_far.calls)) = step_alike world f s ranges so_far.calls so_far.many in
      record {
        calls = alike.calls;
        many = as_many s s' e alike.calls is alike.many;
        outcome = run_goes world f n i (seen s ranges so_far.calls) (seen s' ranges alike.calls) e all less goes (same_step s s' e so_far.calls is alike) so_far.outcome;
      }

  pub stands_ends : (n i : ℕ) (s s' : State) (e : StepEnd) → i < n → goes_on e ≡ false → (e, s') ≡ step world f s → Stands world f ranges (n - i) s all →
      standing_of (ended f e (record s' { visible = ranges })) ≡ standing_of all
  stands_ends n i s s' e less ends is so_far =
      let alike : StepsAlike ranges (step world f s) (step world f (seen s ranges so_far.calls)) = step_alike world f s ranges so_far.calls so_far.many in
      sym (same_end f e s' ranges alike.calls (as_many s s' e alike.calls is alike.many))
      ∙ ap standing_of (run_ends world f n i (seen s ranges so_far.calls) (seen s' ranges alike.calls) e all less ends (same_step s s' e so_far.calls is alike) so_far.outcome)

  pub stands_last : (n i : ℕ) (s : State) → n ≤ i → Stands world f ranges (n - i) s all → standings.Running (length s.calls) ≡ standing_of all
  stands_last n i s past so_far =
      let none : n - i ≡ 0 = omega arith in
      sym (ap (λ m. standings.Running m) so_far.many)
      ∙ (sym (ap (λ m. standing_of (run world f m (seen s ranges so_far.calls))) none) ∙ ap standing_of so_far.outcome)
