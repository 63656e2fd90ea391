-- When a function does what another does, whichever the machine: GCC Internals, "Passes and Files
-- of the Compiler".
use Rattle.std.specs.Prelude.{◌≡◌, ◌≢◌, ℕ, ◌≤◌}
use Rattle.std.specs.List.{All}
use Rattle.rtx_tree.specs.declared.function.Function.{Function}
use Rattle.rtx_tree.specs.declared.machine.Reply.{Reply}
use Rattle.rtx_tree.specs.declared.machine.Start.{Start}
use Rattle.rtx_tree.specs.declared.machine.World.{World}
use Rattle.same_behaviour.specs.func_run.Run.{run_of, taken}
use Rattle.same_behaviour.specs.func_run.declared.outcome.Outcome.TheVariants.{Undefined}
use Rattle.same_behaviour.specs.Lawful.{AreWords, AreAddresses, IsWord, IsByte, IsMemory}
use Rattle.law_function_kept.specs.Outcomes.{SameOutcome}
use Rattle.law_function_kept.specs.Ends.{EndsAtExit}

-- ---- starts and worlds of a machine

pub record IsMachineStart (start : Start) : Type 0 where
  pub words : AreWords start
  pub vars : IsWord start.vars
  pub memory : IsMemory start.memory

-- a reply leaves 64 bits in a0, and writes bytes
pub record IsMachineReply (reply : Reply) : Type 0 where
  pub value : IsWord reply.value
  pub bytes : All IsByte reply.writes

pub record IsMachineWorld (world : World) : Type 0 where
  pub symbols : AreAddresses world.symbols
  pub replies : All IsMachineReply world.replies

-- ---- keeping

-- The run of n steps of the first has no value, or some steps of the second come to the same, take
-- as many jumps and calls at least, and return at the end of the chain only where the n do.
abbrev pub KeepsRun : Function → Function → Start → World → ℕ → Type 0
KeepsRun f g start world n =
    run_of f start world n ≢ Undefined →
    (m : ℕ) × (taken f start world n ≤ taken g start world m) × SameOutcome (run_of f start world n) (run_of g start world m) ×
    (EndsAtExit g start world m → EndsAtExit f start world n)

-- the second function does what the first does
pub record Keeps (f g : Function) : Type 0 where
  pub locals_are : g.locals ≡ f.locals
  pub result_is : g.result ≡ f.result
  pub runs : (start : Start) (world : World) (n : ℕ) → IsMachineStart start → IsMachineWorld world →
      KeepsRun f g start world n
