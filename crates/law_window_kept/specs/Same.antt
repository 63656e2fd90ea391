-- When instructions do what a window of instructions does, over the registers that are live behind
-- it: GCC Internals, "Insns" and "Liveness information". From machines with one memory, of which
-- the second knows what the first window uses, wherever the first window has a meaning, so has the
-- second; both go the same way, and leave the same memory; and of what is live as much is known.
-- What the first leaves alone keeps its number, but for registers that are free for a function's
-- own steps.
use Rattle.std.specs.Prelude.{◌≡◌, ℕ, ◌≤◌, ◌&&◌, ◌||◌, not, ◌==◌, Bool, true, false, List, [], ◌∷◌, Some}
use Rattle.bits64.specs.declared.Width.{Width}
use Rattle.rtx_tree.specs.Patterns.{is_label_kind}
use Rattle.rtx_tree.specs.Registers.{is_call_used, virtual_stack_vars}
use Rattle.rtx_tree.specs.declared.function.Insn.{Insn}
use Rattle.rtx_tree.specs.declared.function.Kind.{Kind}
use Rattle.rtx_tree.specs.declared.function.Kind.TheVariants.{Plain, Barrier}
use Rattle.rtx_tree.specs.declared.machine.RangeAt.{RangeAt}
use Rattle.rtx_tree.specs.declared.machine.SymbolAt.{SymbolAt}
use Rattle.rtx_tree.specs.declared.memories.MemByte.{MemByte}
use Rattle.law_window_runs.specs.rtl_step.Regs.{Regs, reg_value}
use Rattle.law_window_runs.specs.rtl_step.declared.call.CallEvent.{CallEvent}
use Rattle.law_window_runs.specs.same_behaviour.Lawful.{AreAddresses, IsMemory}
use Rattle.law_window_runs.specs.Insns.{InsnsEnd, Falls, Goes, Calls, InsnsCome, insns_come}
use Rattle.law_window_runs.specs.Same.{IsKept}
use Rattle.law_window_runs.specs.Uses.{window_uses, window_defines}
use Rattle.law_function_kept.specs.Outcomes.{SameEvent}

-- ---- registers

-- the low bits that are known of a register in the first machine are known in the second
abbrev pub KnownToo : Regs → Regs → ℕ → Type 0
KnownToo regs other reg =
    (w : Width) (value : ℕ) → reg_value regs reg w ≡ Some value → reg_value other reg w ≡ Some value

-- of a register the same is known in both
abbrev pub KnownAlike : Regs → Regs → ℕ → Type 0
KnownAlike regs other reg = (w : Width) → reg_value regs reg w ≡ reg_value other reg w

-- a0 to a7 and t0 to t6, which a function's own steps may change where they are not live (RISC-V
-- ELF psABI, "Integer Register Convention")
abbrev pub is_free : ℕ → Bool
is_free reg = is_call_used reg && not (reg == 1)

-- ---- what the second comes to

-- both fall through, go to the same label, or make the same call
pub data SameEnd : InsnsEnd → InsnsEnd → Type 0 where
  falls : SameEnd Falls Falls
  goes : (uid : ℕ) → SameEnd (Goes uid) (Goes uid)
  calls : (event other : CallEvent) (w : Width) → SameEvent event other →
      SameEnd (Calls event w) (Calls other w)

-- beside what the first comes to
pub record InsnsDo (before after : List Insn) (Live : ℕ → Type 0) (symbols : List SymbolAt) (ranges : List RangeAt) (other : Regs)
    (memory : List MemByte) (came : InsnsCome) : Type 0 where
  pub done : InsnsCome
  pub comes : insns_come symbols ranges after other memory ≡ Some done
  pub same_end : SameEnd came.ending done.ending
  pub memory_is : done.memory ≡ came.memory
  pub agree : (reg : ℕ) → Live reg → IsKept came.ending reg → KnownToo came.regs done.regs reg
  pub kept : (reg : ℕ) → reg ≤ virtual_stack_vars → window_defines before reg ≡ false →
      is_free reg ≡ false → KnownAlike other done.regs reg

-- two machines from which they start
pub record Starts (before : List Insn) (Live : ℕ → Type 0) (symbols : List SymbolAt) (regs other : Regs) (memory : List MemByte) : Type 0 where
  pub symbols_are : AreAddresses symbols
  pub memory_is : IsMemory memory
  pub used : (reg : ℕ) → window_uses before reg ≡ true → KnownToo regs other reg
  pub passed : (reg : ℕ) → Live reg → window_defines before reg ≡ false → KnownToo regs other reg

-- the second do what the first do
abbrev pub DoKeep : List Insn → List Insn → (ℕ → Type 0) → Type 0
DoKeep before after Live =
    (symbols : List SymbolAt) (ranges : List RangeAt) (regs other : Regs) (memory : List MemByte) (came : InsnsCome) →
    Starts before Live symbols regs other memory → insns_come symbols ranges before regs memory ≡ Some came →
    InsnsDo before after Live symbols ranges other memory came

-- ---- windows that can be replaced

abbrev pub is_plain : Kind → Bool
is_plain Plain = true
is_plain Barrier = true
is_plain _ = false

-- a window that leads on from its last alone, and holds no label
abbrev pub leads_last : List Insn → Bool
leads_last [] = true
leads_last (i ∷ []) = not (is_label_kind i.kind)
leads_last (i ∷ j ∷ insns) = is_plain i.kind && leads_last (j ∷ insns)

-- Instructions can stand in the place of a window: neither holds a label, each leads on from its
-- last alone, and they do the same.
pub record CanReplace (before after : List Insn) (Live : ℕ → Type 0) : Type 0 where
  pub before_leads : leads_last before ≡ true
  pub after_leads : leads_last after ≡ true
  pub same : DoKeep before after Live
