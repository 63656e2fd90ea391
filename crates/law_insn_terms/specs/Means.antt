-- When a symbolic state tells what a window of instructions comes to: the registers and the memory
-- that are there, and how it ends (GCC Internals, "Jump Patterns" and "Calls").
use Rattle.std.specs.Prelude.{◌≡◌, ℕ, ◌==◌, ◌%◌, Bool, true, false, List, [], ◌∷◌, Option, Some, None}
use Rattle.std.specs.List.{list_all}
use Rattle.bits64.specs.declared.Width.{Width}
use Rattle.bits64.specs.declared.Width.TheVariants.{W64}
use Rattle.rtx_tree.specs.declared.code.Mode.{Mode}
use Rattle.rtx_tree.specs.declared.machine.RangeAt.{RangeAt}
use Rattle.rtx_tree.specs.declared.machine.SymbolAt.{SymbolAt}
use Rattle.rtx_tree.specs.declared.memories.MemByte.{MemByte}
use Rattle.run_memory.specs.RunMemory.{visible}
use Rattle.rtl_step.specs.Regs.{Regs, reg_value, preserved}
use Rattle.rtl_step.specs.Value as rtl
use Rattle.rtl_step.specs.declared.call.ArgValue.{ArgValue}
use Rattle.rtl_step.specs.declared.call.CallEvent.{CallEvent}
use Rattle.term_tree.specs.Tree as term
use Rattle.term_mean.specs.Meaning.{Valuation, mean}
use Rattle.law_window_runs.specs.Insns.{InsnsEnd, Falls, Goes, Calls, InsnsCome}
use Rattle.sym_insns.specs.sym_state.State.{State, Jump, Arg, Call, NeedAt}
use Rattle.sym_insns.specs.Effects.{uid_in}
use Rattle.law_insn_terms.specs.Needs.{First, is_met}
use Rattle.law_insn_terms.specs.Shows.{IsOf, ShowsMemory, Shows}

-- what there is before the first instruction
abbrev pub first_of : List SymbolAt → Regs → List MemByte → First
first_of symbols regs memory = record { symbols = symbols; reads = reg_value regs; memory = memory }

-- each need of a state is met
abbrev pub all_met : Valuation → First → List NeedAt → Bool
all_met v f needs = list_all (λ n. is_met v f n.what) needs

-- the registers that a state shows: a call leaves those that it preserves
abbrev pub left_at : InsnsEnd → Regs → Regs
left_at (Calls event w) regs = preserved regs
left_at _ regs = regs

-- ---- a jump

-- where the condition's number is 0 it falls through, else it goes to the label with the uid, if
-- that has 32 bits
abbrev pub LeadsOn : Bool → Option ℕ → InsnsEnd → Type 0
LeadsOn true target ending = ending ≡ Falls
LeadsOn false target ending = (uid : ℕ) × (ending ≡ Goes uid) × (uid_in uid ≡ target)

abbrev pub JumpMeans : Valuation → Jump → InsnsEnd → Type 0
JumpMeans v jump ending = LeadsOn (mean v jump.condition == 0) jump.target ending

-- ---- a call

-- an argument in its mode
pub record ArgMeans (v : Valuation) (arg : Arg) (value : ArgValue) : Type 0 where
  pub reg_is : value.reg ≡ arg.reg
  pub width_is : rtl.width_of value.mode ≡ Some (term.width_of arg.value)
  pub value_is : value.value ≡ mean v arg.value

abbrev pub ArgsMean : Valuation → List Arg → List ArgValue → Type 0
ArgsMean v [] [] = Unit {0}
ArgsMean v (arg ∷ args) (value ∷ values) = ArgMeans v arg value × ArgsMean v args values
ArgsMean v _ _ = ⊥

-- the width in which a result is known
abbrev pub result_width : Option Mode → Option Width
result_width None = Some W64
result_width (Some mode) = rtl.width_of mode

pub record CallMeans (v : Valuation) (ranges : List RangeAt) (call : Call) (came : InsnsCome) : Type 0 where
  pub event : CallEvent
  pub width : Width
  pub ending_is : came.ending ≡ Calls event width
  pub target_is : event.target ≡ mean v call.target
  pub aligned : event.target % 4 ≡ 0
  pub args_are : ArgsMean v call.args event.args
  pub memory_is : event.memory ≡ visible ranges came.memory
  pub width_is : result_width call.result ≡ Some width

-- ---- a window

abbrev pub EndMeans : Valuation → List RangeAt → Jump → Option Call → InsnsCome → Type 0
EndMeans v ranges jump None came = JumpMeans v jump came.ending
EndMeans v ranges jump (Some call) came = CallMeans v ranges call came

pub record Means (v : Valuation) (f : First) (ranges : List RangeAt) (s : State) (came : InsnsCome) : Type 0 where
  pub shows : Shows v f s (left_at came.ending came.regs) came.memory
  pub ending : EndMeans v ranges s.jump s.call came

-- ---- what is asked of a run, and what it gives

-- registers, symbols and memory before the first instruction are those of a valuation, whose memory
-- may have more
pub record IsFirst (v : Valuation) (f : First) : Type 0 where
  pub of : IsOf v f
  pub memory_is : ShowsMemory v f f.memory 0

-- a call's target is a multiple of 4
abbrev pub IsAligned : Valuation → Option Call → Type 0
IsAligned v None = Unit {0}
IsAligned v (Some call) = mean v call.target % 4 ≡ 0

-- A valuation with the same registers, symbols and first memory, and with the memories behind the
-- stores of a run. All needs of the run were met.
pub record RunMeans (first : Valuation) (f : First) (ranges : List RangeAt) (s : State) (came : InsnsCome) : Type 0 where
  pub v : Valuation
  pub same_reg : (reg : ℕ) → v.reg reg ≡ first.reg reg
  pub same_sym : (name : List ℕ) → v.sym name ≡ first.sym name
  pub same_memory : (address : ℕ) → v.memory 0 address ≡ first.memory 0 address
  pub met : all_met v f s.needs ≡ true
  pub means : Means v f ranges s came

-- a run of instructions comes to what the state tells
pub record Comes (v : Valuation) (f : First) (ranges : List RangeAt) (s : State) (came : Option InsnsCome) : Type 0 where
  pub come : InsnsCome
  pub comes : came ≡ Some come
  pub means : Means v f ranges s come
