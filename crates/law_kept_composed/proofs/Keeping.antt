-- A function does what itself does, and what does what a second does that does what a third does, does that: passes are composed.
use Rattle.std.proofs.Common.{◌≡◌, ◌≢◌, ℕ, ◌≤◌, arith, refl, sym, ap, ◌∙◌}
use Rattle.rtx_tree.specs.declared.function.Function.{Function}
use Rattle.rtx_tree.specs.declared.machine.Start.{Start}
use Rattle.rtx_tree.specs.declared.machine.World.{World}
use Rattle.func_run.specs.Run.{run_of}
use Rattle.func_run.specs.declared.outcome.Outcome.{Outcome}
use Rattle.func_run.specs.declared.outcome.Outcome.TheVariants.{Undefined, Running, Asked, Returned}
use Rattle.law_function_kept.specs.Outcomes.{SameOutcome}
use Rattle.law_function_kept.specs.Keeps.{Keeps, KeepsRun, IsMachineStart, IsMachineWorld}
use Rattle.law_kept_composed.proofs.Events.{events_refl, events_trans, kept_trans}

-- ---- outcomes

pub outcome_refl : (x : Outcome) → x ≢ Undefined → SameOutcome x x
outcome_refl (Running events) some = events_refl events
outcome_refl (Asked events) some = events_refl events
outcome_refl (Returned value memory events kept) some = (refl, refl, events_refl events, λ i number at. at)
outcome_refl Undefined some = absurd (some refl)

pub outcome_trans : (x y z : Outcome) → SameOutcome x y → SameOutcome y z → SameOutcome x z
outcome_trans (Running a) (Running b) (Running c) first second = events_trans a b c first second
outcome_trans (Asked a) (Asked b) (Asked c) first second = events_trans a b c first second
outcome_trans (Returned value memory a kept) (Returned value' memory' b kept') (Returned value'' memory'' c kept'') first second =
    (second.0 ∙ first.0, second.1 ∙ first.1, events_trans a b c first.2 second.2, kept_trans kept kept' kept'' first.3 second.3)
outcome_trans (Running a) (Running b) _ first second = absurd second
outcome_trans (Asked a) (Asked b) _ first second = absurd second
outcome_trans (Returned value memory a kept) (Returned value' memory' b kept') _ first second = absurd second
outcome_trans _ _ _ first second = absurd first

-- what is the same as something has a value
pub has_value : (x y : Outcome) → SameOutcome x y → y ≢ Undefined
has_value x Undefined same is = no_undefined x same
  where
    no_undefined : (x : Outcome) → SameOutcome x Undefined → ⊥
    no_undefined (Running a) same = same
    no_undefined (Asked a) same = same
    no_undefined (Returned value memory a kept) same = same
    no_undefined Undefined same = same
has_value x (Running a) same is = let no : ⊥ = cc in no
has_value x (Asked a) same is = let no : ⊥ = cc in no
has_value x (Returned value memory a kept) same is = let no : ⊥ = cc in no

-- ---- functions

pub keeps_refl : (f : Function) → Keeps f f
keeps_refl f = record {
  locals_are = refl;
  result_is = refl;
  runs = λ start world n machine world_is some. (n, omega arith, outcome_refl (run_of f start world n) some, λ ends. ends);
}

runs_trans : (f g h : Function) → Keeps f g → Keeps g h → (start : Start) (world : World) (n : ℕ) → IsMachineStart start →
    IsMachineWorld world → KeepsRun f h start world n
runs_trans f g h first second start world n is_start is_world some =
    let one = first.runs start world n is_start is_world some in
    let more = second.runs start world one.0 is_start is_world
    (has_value (run_of f start world n) (run_of g start world one.0) one.2) in
    let few = one.1 in let few' = more.1 in (
      more.0,
      omega (arith, few, few'),
      outcome_trans (run_of f start world n) (run_of g start world one.0) (run_of h start world more.0) one.2 more.2,
      λ ends. one.3 (more.3 ends),
    )

pub keeps_trans : (f g h : Function) → Keeps f g → Keeps g h → Keeps f h
keeps_trans f g h first second = record {
  locals_are = second.locals_are ∙ first.locals_are;
  result_is = second.result_is ∙ first.result_is;
  runs = runs_trans f g h first second;
}
