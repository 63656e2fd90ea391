-- The run of a function from a start in a world: GCC Internals, "Insns" (a chain is followed from
-- its first instruction); RISC-V ELF psABI, "Integer Register Convention" (what holds what at
-- entry).
use Rattle.std.specs.Prelude.{◌≡◌, ℕ, zero, suc, ◌+◌, ◌*◌, ◌≤◌, Bool, true, false, List, [], ◌∷◌, map, slice_index, Option, Some, None, if◌then◌else◌}
use Rattle.std.specs.FinMap.{empty}
use Rattle.bits64.specs.declared.Width.TheVariants.{W64}
use Rattle.rtx_tree.specs.declared.function.Insn.{Insn}
use Rattle.rtx_tree.specs.declared.function.Function.{Function}
use Rattle.rtx_tree.specs.declared.machine.Start.{Start}
use Rattle.rtx_tree.specs.declared.machine.World.{World}
use Rattle.run_memory.specs.RunMemory.{visible}
use Rattle.rtl_step.specs.Regs.{Regs, known_of, reg_value, with_reg}
use Rattle.rtl_step.specs.Step.{step, result_of, is_mark}
use Rattle.rtl_step.specs.declared.step.State.{State}
use Rattle.rtl_step.specs.declared.step.StepEnd.{StepEnd}
use Rattle.rtl_step.specs.declared.step.StepEnd.TheVariants.{Next, Jumped, Called, Returned, Asked}
use Rattle.func_run.specs.declared.outcome.Outcome.{Outcome}
use Rattle.func_run.specs.declared.outcome.Outcome.TheVariants as outcomes

-- ---- entry

-- the registers that are set at entry, each with its 64 bits: a0 to a7, sp, ra, s0 to s11, and
-- virtual-stack-vars
abbrev pub entry_values : Start → List (ℕ × ℕ)
entry_values start =
    (10, slice_index start.args 0) ∷ (11, slice_index start.args 1) ∷ (12, slice_index start.args 2) ∷ (13, slice_index start.args 3) ∷
    (14, slice_index start.args 4) ∷ (15, slice_index start.args 5) ∷ (16, slice_index start.args 6) ∷ (17, slice_index start.args 7) ∷
    (2, start.sp) ∷ (1, start.ra) ∷
    (8, slice_index start.saved 0) ∷ (9, slice_index start.saved 1) ∷ (18, slice_index start.saved 2) ∷ (19, slice_index start.saved 3) ∷
    (20, slice_index start.saved 4) ∷ (21, slice_index start.saved 5) ∷ (22, slice_index start.saved 6) ∷ (23, slice_index start.saved 7) ∷
    (24, slice_index start.saved 8) ∷ (25, slice_index start.saved 9) ∷ (26, slice_index start.saved 10) ∷ (27, slice_index start.saved 11) ∷
    (32, start.vars) ∷ []

-- the registers after some are set, each with its 64 bits
abbrev pub with_all : List (ℕ × ℕ) → Regs → Regs
with_all [] regs = regs
with_all (entry ∷ rest) regs = with_all rest (with_reg regs entry.0 (known_of W64 entry.1))

-- every other register is unset
abbrev pub entry_regs : Start → Regs
entry_regs start = with_all (entry_values start) empty

-- the state at entry
abbrev pub entry_of : Start → State
entry_of start = record { next = 0; regs = entry_regs start; memory = start.memory; visible = start.visible; calls = [] }

-- ---- the run

-- sp, ra and s0 to s11
abbrev pub kept_registers : List ℕ
kept_registers = 2 ∷ 1 ∷ 8 ∷ 9 ∷ 18 ∷ 19 ∷ 20 ∷ 21 ∷ 22 ∷ 23 ∷ 24 ∷ 25 ∷ 26 ∷ 27 ∷ []

-- each of some registers, where all its 64 bits are known
abbrev pub values_of : Regs → List ℕ → List (Option ℕ)
values_of regs numbers = map (λ reg. reg_value regs reg W64) numbers

abbrev pub kept_of : Regs → List (Option ℕ)
kept_of regs = values_of regs kept_registers

-- what a function that returns leaves
abbrev pub returned : Function → State → Outcome
returned f s = outcomes.Returned (result_of f.result s.regs) (visible s.visible s.memory) s.calls (kept_of s.regs)

-- whether a run goes on after a step that ends in this way
abbrev pub goes_on : StepEnd → Bool
goes_on Next = true
goes_on Jumped = true
goes_on Called = true
goes_on _ = false

-- the outcome of a run that does not go on; once ended it stays
abbrev pub ended : Function → StepEnd → State → Outcome
ended f Returned s = returned f s
ended f Asked s = outcomes.Asked s.calls
ended f _ s = outcomes.Undefined

-- the outcome after a step, given that of the steps that are left
abbrev pub go_on : Function → StepEnd → State → (State → Outcome) → Outcome
go_on f e s rest = if goes_on e then rest s else ended f e s

-- the outcome of n steps from a state
abbrev pub run : World → Function → ℕ → State → Outcome
run world f zero s = outcomes.Running s.calls
run world f (suc n) s = let e = step world f s in go_on f e.0 e.1 (run world f n)

-- the outcome of n steps of a function from its start in a world
abbrev pub run_of : Function → Start → World → ℕ → Outcome
run_of f start world n = run world f n (entry_of start)

-- ---- how many of the steps took a jump or made a call

abbrev pub taken_on : StepEnd → State → (State → ℕ) → ℕ
taken_on Next s rest = rest s
taken_on Jumped s rest = suc (rest s)
taken_on Called s rest = suc (rest s)
taken_on Asked s rest = 1
taken_on _ s rest = 0

abbrev pub taken_from : World → Function → ℕ → State → ℕ
taken_from world f zero s = 0
taken_from world f (suc n) s = let e = step world f s in taken_on e.0 e.1 (taken_from world f n)

-- of the first n steps from a start in a world
abbrev pub taken : Function → Start → World → ℕ → ℕ
taken f start world n = taken_from world f n (entry_of start)

-- the run has not ended
abbrev pub IsRunning : Outcome → Type 0
IsRunning (outcomes.Running calls) = Unit {0}
IsRunning _ = ⊥

-- how many instructions a chain has, labels and barriers aside
abbrev pub insn_count : List Insn → ℕ
insn_count [] = 0
insn_count (i ∷ insns) = if is_mark i.kind then insn_count insns else suc (insn_count insns)

-- An endless run takes jumps and makes calls without end: a run of a function of K instructions
-- that goes on after n steps has taken so many of them that n is at most (taken + 1) * (K + 1).
abbrev pub TakesEnough : Type 0
TakesEnough =
    (f : Function) (start : Start) (world : World) (n : ℕ) → IsRunning (run_of f start world n) →
    n ≤ (taken f start world n + 1) * (insn_count f.insns + 1)

-- ---- the states of a run

-- the state after n steps that all go on, or none where one of them ended the run
abbrev pub state_after : World → Function → ℕ → State → Option State
state_after world f zero s = Some s
state_after world f (suc n) s =
    let e = step world f s in if goes_on e.0 then state_after world f n e.1 else None

-- what a run of n steps comes to in m more, by the state after the n; once ended it stays
abbrev pub run_on : World → Function → ℕ → ℕ → State → Option State → Outcome
run_on world f n m s None = run world f n s
run_on world f n m s (Some after) = run world f m after

abbrev pub taken_more : World → Function → ℕ → ℕ → State → Option State → ℕ
taken_more world f n m s None = taken_from world f n s
taken_more world f n m s (Some after) = taken_from world f n s + taken_from world f m after

-- A run is cut in two: n steps and m more are the n, and the m from the state after them.
pub record IsCut (world : World) (f : Function) (n m : ℕ) (s : State) : Type 0 where
  pub outcome : run world f (n + m) s ≡ run_on world f n m s (state_after world f n s)
  pub taken_is : taken_from world f (n + m) s ≡ taken_more world f n m s (state_after world f n s)

abbrev pub AreCut : Type 0
AreCut = (world : World) (f : Function) (n m : ℕ) (s : State) → IsCut world f n m s
