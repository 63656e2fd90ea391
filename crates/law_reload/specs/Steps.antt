-- What a function whose registers have homes does beside each step of the function with its pseudo
-- registers: GCC Internals, "Insns" and "RTL passes" (reload). It makes so many steps of its own,
-- through states at which all of the frame stays that has to stay.
use Rattle.std.specs.Prelude.{◌≡◌, ℕ, zero, suc, ◌≤◌, true, false, List}
use Rattle.rtx_tree.specs.declared.function.Function.{Function}
use Rattle.rtx_tree.specs.declared.machine.Start.{Start}
use Rattle.rtx_tree.specs.declared.machine.World.{World}
use Rattle.rtl_step.specs.Step.{step}
use Rattle.rtl_step.specs.declared.step.State.{State}
use Rattle.rtl_step.specs.declared.step.StepEnd.{StepEnd}
use Rattle.rtl_step.specs.declared.step.StepEnd.TheVariants as ends
use Rattle.func_run.specs.Run.{goes_on, ended, taken_from}
use Rattle.law_function_kept.specs.Ends.{is_past}
use Rattle.same_behaviour.specs.Lawful.{IsMemory}
use Rattle.assign.specs.declared.home.HomeOf.{HomeOf}
use Rattle.assign.specs.declared.places.Layout.{Layout}
use Rattle.law_homes.specs.Stands.{Stands}
use Rattle.law_reload_moves.specs.law_frame.Kept.{IsKept}
use Rattle.law_reload.specs.Keeps.{ComesToSame}

-- two functions, the homes of the registers of the first and the frame of the second, and where and
-- in which world they start
pub record Pair : Type 0 where
  pub f : Function
  pub g : Function
  pub homes : List HomeOf
  pub layout : Layout
  pub start : Start
  pub world : World

-- what has to stay in the frame stays at a state of the second
abbrev pub Kept : Pair → State → Type 0
Kept c u = IsKept c.f.locals c.layout c.start u

-- a number of steps of the second leads from one state to another, and all of the frame stays at
-- each state at which one of them is made
pub data Leads (c : Pair) : ℕ → State → State → Type 0 where
  none : (u : State) → Leads c zero u u
  more : (k : ℕ) (u next last : State) (e : StepEnd) → Kept c u → step c.world c.g u ≡ (e, next) →
      goes_on e ≡ true → Leads c k next last →
      Leads c (suc k) u last

-- The states stand beside each other where the first function is, the place of the second is one
-- for it, and its memory is one of a machine.
pub record Beside (c : Pair) (At : ℕ → ℕ → Type 0) (s u : State) : Type 0 where
  pub stands : Stands c.f c.homes c.layout c.start s.next s u
  pub at : At s.next u.next
  pub memory : IsMemory u.memory

-- What the second does in a state beside a step of the first.
pub data StepsBeside (c : Pair) (At : ℕ → ℕ → Type 0) (s u : State) : Type 0 where
  -- the first goes on, and the second stands beside it again, with as many jumps and calls at least
  go : (e : StepEnd) (s' u' : State) (k : ℕ) → step c.world c.f s ≡ (e, s') → goes_on e ≡ true →
      Leads c k u u' →
      taken_from c.world c.f 1 s ≤ taken_from c.world c.g k u → Beside c At s' u' →
      StepsBeside c At s u
  -- the two runs end in the same way, and only both at once past the last instruction
  end : (e : StepEnd) (s' u' u'' : State) (k : ℕ) → step c.world c.f s ≡ (e, s') →
      goes_on e ≡ false → Leads c k u u' → Kept c u' →
      step c.world c.g u' ≡ (e, u'') → ComesToSame (ended c.f e s') (ended c.g e u'') →
      (is_past c.g u' ≡ true → is_past c.f s ≡ true) →
      StepsBeside c At s u
  -- the first has no value, and nothing is asked
  never : (s' : State) → step c.world c.f s ≡ (ends.Undefined, s') → StepsBeside c At s u

-- the steps of each two states that stand beside each other stand beside each other
pub record StepsUnderHomes (c : Pair) (At : ℕ → ℕ → Type 0) : Type 0 where
  pub first : At 0 0
  pub steps : (s u : State) → Beside c At s u → StepsBeside c At s u
