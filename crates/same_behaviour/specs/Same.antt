-- When the lines and labels of a function do what the function does: GCC Internals, "Passes and
-- Files of the Compiler"; RISC-V ELF psABI, "Integer Calling Convention" (which registers a
-- function preserves).
use Rattle.std.specs.Prelude.{◌≡◌, ◌≢◌, ℕ, ◌-◌, ◌≤◌, List, length, slice_get, Option, Some, None, MatchOption, option_map}
use Rattle.bits64.specs.Words.{low}
use Rattle.rv_line.specs.rtx_tree.declared.code.Mode.{Mode}
use Rattle.rv_line.specs.rtx_tree.declared.machine.Start.{Start}
use Rattle.rv_line.specs.rtx_tree.declared.machine.World.{World}
use Rattle.rv_line.specs.rtx_tree.declared.function.Function.{Function}
use Rattle.func_run.specs.rtl_step.Value.{width_of}
use Rattle.func_run.specs.rtl_step.declared.call.ArgValue.{ArgValue}
use Rattle.func_run.specs.rtl_step.declared.call.CallEvent.{CallEvent}
use Rattle.func_run.specs.Run.{run_of, taken}
use Rattle.func_run.specs.declared.outcome.Outcome.{Outcome}
use Rattle.func_run.specs.declared.outcome.Outcome.TheVariants as rtl
use Rattle.rv_line.specs.rv_text.declared.line.CodeItem.{CodeItem}
use Rattle.rv_line.specs.Run as lines
use Rattle.rv_line.specs.declared.outcome.CodeCall.{CodeCall}
use Rattle.rv_line.specs.declared.outcome.CodeOutcome.{CodeOutcome}
use Rattle.rv_line.specs.declared.outcome.CodeOutcome.TheVariants as code
use Rattle.rv_line.specs.declared.outcome.Saved.{Saved}
use Rattle.same_behaviour.specs.Lawful.{IsLawful, IsLawfulWorld, seen_by_rtl}

-- ---- the same calls

-- an argument stands in one of a0 to a7, which are registers 10 to 17: that of the code has the low
-- bits that the function hands over
pub record SameArg (call : CodeCall) (arg : ArgValue) : Type 0 where
  pub least : 10 ≤ arg.reg
  pub most : arg.reg ≤ 17
  pub number : ℕ
  pub held : slice_get call.args (arg.reg - 10) ≡ Some (Some number)
  pub value_is : option_map (λ w. low w number) (width_of arg.mode) ≡ Some arg.value

abbrev pub SameArgs : CodeCall → List ArgValue → Type 0
SameArgs call args = (i : ℕ) (arg : ArgValue) → slice_get args i ≡ Some arg → SameArg call arg

-- two calls with the same target, arguments and visible memory
pub record SameCall (event : CallEvent) (call : CodeCall) : Type 0 where
  pub target_is : call.target ≡ event.target
  pub args_are : SameArgs call event.args
  pub memory_is : call.memory ≡ event.memory

-- equally many, each the same
abbrev pub SameCalls : List CallEvent → List CodeCall → Type 0
SameCalls events calls =
    (length calls ≡ length events) ×
    ((i : ℕ) (event : CallEvent) (call : CodeCall) →
    slice_get events i ≡ Some event → slice_get calls i ≡ Some call → SameCall event call)

-- ---- the same outcome

-- a0 has the result in the result's mode
abbrev pub SameResult : Option Mode → Option ℕ → Option ℕ → Type 0
SameResult None value a0 = Unit {0}
SameResult (Some mode) value a0 =
    MatchOption a0 ⊥ (λ number. option_map (λ w. low w number) (width_of mode) ≡ value)

-- what sp and s0 to s11 hold at entry
abbrev pub at_entry : Start → Saved
at_entry start = lines.saved_of (lines.entry_regs start)

-- both runs are at a return, at a call without a reply, or go on
abbrev pub SameOutcome : Option Mode → Start → Outcome → CodeOutcome → Type 0
SameOutcome mode start (rtl.Running events) (code.Running calls) = SameCalls events calls
SameOutcome mode start (rtl.Asked events) (code.Asked calls) = SameCalls events calls
SameOutcome mode start (rtl.Returned value memory events kept) (code.Returned a0 memory' calls saved) =
    SameResult mode value a0 × (memory' ≡ memory) × SameCalls events calls × (saved ≡ at_entry start)
SameOutcome mode start _ _ = ⊥

-- ---- same behaviour

-- A function and its code, from a start whose frame has a size, in a world: where the function's
-- run of n steps has a value, the code reaches the same outcome in some k lines, which are as many
-- at least as the jumps and calls that the function took.
abbrev pub SameFrom : ℕ → Function → List CodeItem → Start → World → ℕ → Type 0
SameFrom frame f items start world n = let seen = seen_by_rtl frame f.locals start in
    run_of f seen world n ≢ rtl.Undefined →
    (k : ℕ) × (taken f seen world n ≤ k) ×
    SameOutcome f.result start (run_of f seen world n) (lines.run items start world k)

-- The code of a function that needs a frame of a size has its behaviour: so it is from every lawful
-- start whose frame has that size at least, in every lawful world.
abbrev pub Same : ℕ → Function → List CodeItem → Type 0
Same least f items = (frame : ℕ) (start : Start) (world : World) (n : ℕ) → least ≤ frame →
    IsLawful frame f.locals start → IsLawfulWorld start world → SameFrom frame f items start world n
