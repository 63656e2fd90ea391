-- When a function whose registers have homes does what the function with its pseudo registers does,
-- and when it does so with its frame: GCC Internals, "RTL passes" (reload), "Basic Stack Layout"
-- and "Function Entry and Exit"; RISC-V ELF psABI, "Integer Register Convention".
use Rattle.std.specs.Prelude.{◌≡◌, ◌≢◌, ℕ, ◌≤◌}
use Rattle.rtx_tree.specs.declared.function.Function.{Function}
use Rattle.rtx_tree.specs.declared.machine.Start.{Start}
use Rattle.rtx_tree.specs.declared.machine.World.{World}
use Rattle.func_run.specs.Run.{run_of, taken}
use Rattle.func_run.specs.declared.outcome.Outcome.{Outcome}
use Rattle.func_run.specs.declared.outcome.Outcome.TheVariants.{Running, Asked, Returned, Undefined}
use Rattle.law_function_kept.specs.Ends.{EndsAtExit}
use Rattle.same_behaviour.specs.Lawful.{IsLawful, IsLawfulWorld, seen_by_rtl}
use Rattle.assign.specs.declared.places.Layout.{Layout}
use Rattle.law_reload_moves.specs.law_frame.Kept.{lowered, StaysKept}
use Rattle.law_reload_moves.specs.law_frame.Keeps.{Restores}

-- ---- the same outcome

-- Two outcomes that come to the same: both go on, are at a call without a reply, or have returned,
-- with the same calls, and the same value and visible memory. Nothing is said of the registers that
-- a function preserves.
abbrev pub ComesToSame : Outcome → Outcome → Type 0
ComesToSame (Running events) (Running others) = others ≡ events
ComesToSame (Asked events) (Asked others) = others ≡ events
ComesToSame (Returned value memory events kept) (Returned value' memory' others kept') =
    (value' ≡ value) × (memory' ≡ memory) × (others ≡ events)
ComesToSame _ _ = ⊥

-- ---- homes

-- The run of n steps from what the function sees of a start has no value, or some steps of the
-- function with homes, from the start with sp lowered, come to the same and take as many jumps and
-- calls at least. They return at the end of the chain only where the n do, and at each state at
-- which one of them is made there stays what has to stay in the frame.
abbrev pub KeepsRunUnderHomes : Function → Layout → Function → Start → World → ℕ → Type 0
KeepsRunUnderHomes f layout g start world n =
    let seen = seen_by_rtl layout.size f.locals start in
    let low = lowered layout.size start in
    run_of f seen world n ≢ Undefined →
    (m : ℕ) × (taken f seen world n ≤ taken g low world m) ×
    ComesToSame (run_of f seen world n) (run_of g low world m) ×
    (EndsAtExit g low world m → EndsAtExit f seen world n) × StaysKept g layout start world m

-- the second function does, in a frame that others make and leave, what the first does, from each
-- lawful start and in each lawful world
pub record KeepsUnderHomes (f : Function) (layout : Layout) (g : Function) : Type 0 where
  pub locals_are : g.locals ≡ f.locals
  pub result_is : g.result ≡ f.result
  pub runs : (start : Start) (world : World) (n : ℕ) → IsLawful layout.size f.locals start →
      IsLawfulWorld start world →
      KeepsRunUnderHomes f layout g start world n

-- ---- homes and a frame

-- The run of n steps from what the function sees of a start has no value, or some steps of the
-- function with homes and a frame, from the start itself, come to the same, leave to the caller
-- what it had in sp, ra and s0 to s11, take as many jumps and calls at least, and never return at
-- the end of the chain.
abbrev pub KeepsRunWithFrame : Function → Layout → Function → Start → World → ℕ → Type 0
KeepsRunWithFrame f layout h start world n =
    let seen = seen_by_rtl layout.size f.locals start in
    run_of f seen world n ≢ Undefined →
    (m : ℕ) × (taken f seen world n ≤ taken h start world m) ×
    Restores start (run_of f seen world n) (run_of h start world m) ×
    ¬ EndsAtExit h start world m

-- the second function does what the first does, in a frame of its own
abbrev pub KeepsWithFrame : Function → Layout → Function → Type 0
KeepsWithFrame f layout h = (start : Start) (world : World) (n : ℕ) →
    IsLawful layout.size f.locals start → IsLawfulWorld start world →
    KeepsRunWithFrame f layout h start world n
