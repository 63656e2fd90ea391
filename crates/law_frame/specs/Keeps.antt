-- When a function with its frame does what the function does in a frame that others make and leave:
-- GCC Internals, "Function Entry and Exit" and "Passes and Files of the Compiler"; RISC-V ELF
-- psABI, "Integer Register Convention" (what a caller finds as it was).
use Rattle.std.specs.Prelude.{◌≡◌, ◌≢◌, ℕ, ◌+◌, ◌-◌, ◌%◌, ◌≤◌, true, List, [], ◌∷◌, unwrap_or}
use Rattle.std.specs.List.{All, AllPairs}
use Rattle.bits64.specs.declared.Width.TheVariants.{W64}
use Rattle.rtx_tree.specs.RegSet.{has_reg}
use Rattle.rtx_tree.specs.declared.function.Function.{Function}
use Rattle.rtx_tree.specs.declared.machine.Start.{Start}
use Rattle.rtx_tree.specs.declared.machine.World.{World}
use Rattle.rtx_tree.specs.declared.memories.MemByte.{MemByte}
use Rattle.run_memory.specs.RunMemory.{with_number}
use Rattle.rtl_step.specs.Regs.{reg_value}
use Rattle.func_run.specs.Run.{entry_regs, run_of, taken}
use Rattle.law_function_kept.specs.Ends.{EndsAtExit}
use Rattle.func_run.specs.declared.outcome.Outcome.{Outcome}
use Rattle.func_run.specs.declared.outcome.Outcome.TheVariants.{Running, Asked, Returned, Undefined}
use Rattle.same_behaviour.specs.Lawful.{IsLawful, IsLawfulWorld}
use Rattle.law_window_replaced.specs.law_window_lines.Left.{found}
use Rattle.assign.specs.declared.places.SavedAt.{SavedAt}
use Rattle.assign.specs.declared.places.Layout.{Layout}
use Rattle.assign.specs.Frame.{offsets}
use Rattle.law_frame.specs.Kept.{lowered, preserved_registers, StaysKept}

-- ---- layouts

-- A layout in which all have a place of their own: what is saved is of ra and s0 to s11, and each
-- offset has 8 aligned bytes to itself, within the frame and below the locals.
pub record IsLaidOut (locals : ℕ) (layout : Layout) : Type 0 where
  pub preserved : All (λ s. has_reg preserved_registers s.reg ≡ true) layout.saved
  pub size_aligned : layout.size % 16 ≡ 0
  pub aligned : All (λ offset. offset % 8 ≡ 0) (offsets layout)
  pub within : All (λ offset. offset + 8 + locals ≤ layout.size) (offsets layout)
  pub apart : AllPairs (λ upper lower. lower + 8 ≤ upper) (offsets layout)

-- ---- the start in the frame

-- what a register holds at entry
abbrev pub held_at_entry : Start → ℕ → ℕ
held_at_entry start reg = unwrap_or (reg_value (entry_regs start) reg W64) 0

-- memory with what is saved at its places above a base
abbrev pub with_words : Start → ℕ → List SavedAt → List MemByte → List MemByte
with_words start base [] memory = memory
with_words start base (s ∷ saved) memory =
    with_words start base saved (with_number memory (base + s.offset) 8 (held_at_entry start s.reg))

-- the start with what the frame saves at its places
abbrev pub with_saved : Layout → Start → Start
with_saved layout start = record start { memory = with_words start (start.sp - layout.size) layout.saved start.memory }

-- ---- what is kept

-- The outcome of the one is that of the other, and where it has returned, sp, ra and s0 to s11 hold
-- what they held at entry.
abbrev pub Restores : Start → Outcome → Outcome → Type 0
Restores start (Running events) (Running others) = others ≡ events
Restores start (Asked events) (Asked others) = others ≡ events
Restores start (Returned value memory events kept) (Returned value' memory' others kept') =
    (value' ≡ value) × (memory' ≡ memory) × (others ≡ events) × (kept' ≡ found start)
Restores start _ _ = ⊥

-- The run of n steps in the frame has no value, or some steps of the function with its frame come
-- to the same, take as many jumps and calls at least, and never return at the end of the chain.
abbrev pub KeepsRunInFrame : Function → Layout → Function → Start → World → ℕ → Type 0
KeepsRunInFrame f layout g start world n =
    let inner = lowered layout.size (with_saved layout start) in
    run_of f inner world n ≢ Undefined →
    (m : ℕ) × (taken f inner world n ≤ taken g start world m) × Restores start (run_of f inner world n) (run_of g start world m) ×
    ¬ EndsAtExit g start world m

-- The second function does, from each lawful start and in each lawful world, what the first does in
-- the frame, as far as there stays what has to stay.
abbrev pub KeepsInFrame : Function → Layout → Function → Type 0
KeepsInFrame f layout g =
    (start : Start) (world : World) (n : ℕ) → IsLawful layout.size f.locals start →
    IsLawfulWorld start world →
    StaysKept f layout (with_saved layout start) world n → KeepsRunInFrame f layout g start world n
