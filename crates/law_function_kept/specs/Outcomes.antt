-- When two runs come to the same: GCC Internals, "Calls"; RISC-V ELF psABI, "Integer Register
-- Convention" (what a function preserves).
use Rattle.std.specs.Prelude.{◌≡◌, ℕ, List, length, slice_get, Option, Some}
use Rattle.same_behaviour.specs.rtl_step.declared.call.ArgValue.{ArgValue}
use Rattle.same_behaviour.specs.rtl_step.declared.call.CallEvent.{CallEvent}
use Rattle.same_behaviour.specs.func_run.declared.outcome.Outcome.{Outcome}
use Rattle.same_behaviour.specs.func_run.declared.outcome.Outcome.TheVariants.{Running, Asked, Returned}

-- ---- the same calls

-- each argument of the one is one of the other
abbrev pub HasEach : List ArgValue → List ArgValue → Type 0
HasEach args others =
    (i : ℕ) (arg : ArgValue) → slice_get args i ≡ Some arg →
    (j : ℕ) × (slice_get others j ≡ Some arg)

-- two calls with the same target, arguments, in whatever order, and visible memory
pub record SameEvent (event other : CallEvent) : Type 0 where
  pub target_is : other.target ≡ event.target
  pub passes : HasEach event.args other.args
  pub no_more : HasEach other.args event.args
  pub memory_is : other.memory ≡ event.memory

-- equally many, each the same
pub record SameEvents (events others : List CallEvent) : Type 0 where
  pub long : length others ≡ length events
  pub each : (i : ℕ) (event other : CallEvent) → slice_get events i ≡ Some event →
      slice_get others i ≡ Some other → SameEvent event other

-- ---- the same outcome

-- where a register that a function preserves is known to hold a number, the other holds it too
abbrev pub KeptToo : List (Option ℕ) → List (Option ℕ) → Type 0
KeptToo kept others =
    (i : ℕ) (number : ℕ) → slice_get kept i ≡ Some (Some number) →
    slice_get others i ≡ Some (Some number)

-- both go on, are at a call without a reply, or have returned
abbrev pub SameOutcome : Outcome → Outcome → Type 0
SameOutcome (Running events) (Running others) = SameEvents events others
SameOutcome (Asked events) (Asked others) = SameEvents events others
SameOutcome (Returned value memory events kept) (Returned value' memory' others kept') =
    (value' ≡ value) × (memory' ≡ memory) × SameEvents events others × KeptToo kept kept'
SameOutcome _ _ = ⊥
