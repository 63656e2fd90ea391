-- Where a run returns at the end of the chain, past its last instruction: GCC Internals, "Insns".
use Rattle.std.specs.Prelude.{◌≡◌, ℕ, zero, suc, Bool, true, false, not, if◌then◌else◌, is_some, slice_get}
use Rattle.rtx_tree.specs.declared.function.Function.{Function}
use Rattle.rtx_tree.specs.declared.machine.Start.{Start}
use Rattle.rtx_tree.specs.declared.machine.World.{World}
use Rattle.same_behaviour.specs.rtl_step.Step.{step, place_from}
use Rattle.same_behaviour.specs.rtl_step.declared.step.State.{State}
use Rattle.same_behaviour.specs.func_run.Run.{entry_of, goes_on}

-- past the last instruction
abbrev pub is_past : Function → State → Bool
is_past f s = not (is_some (slice_get f.insns (place_from f.insns s.next)))

-- one of the n steps from a state ends the run there
abbrev pub ends_past : World → Function → ℕ → State → Bool
ends_past world f zero s = false
ends_past world f (suc n) s =
    let e = step world f s in if goes_on e.0 then ends_past world f n e.1 else is_past f s

-- the run of n steps from a start ends there
abbrev pub EndsAtExit : Function → Start → World → ℕ → Type 0
EndsAtExit f start world n = ends_past world f n (entry_of start) ≡ true
