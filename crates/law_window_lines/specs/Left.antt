-- Same behaviour where a run leaves to its caller what it found, of a function that has its frame:
-- RISC-V ELF psABI, "Integer Register Convention" (ra holds the return address; a function
-- preserves sp and s0 to s11) and "Integer Calling Convention" (the stack).
use Rattle.std.specs.Prelude.{◌≡◌, ◌≢◌, ℕ, ◌≤◌, ◌<◌, true, List, [], ◌∷◌, map, slice_get, slice_index, Option, Some}
use Rattle.std.specs.List.{All}
use Rattle.rtx_tree.specs.Tree.{head_of, kids_of}
use Rattle.rtx_tree.specs.declared.code.Code.{Code}
use Rattle.rtx_tree.specs.declared.code.Code.TheVariants.{Set}
use Rattle.rtx_tree.specs.declared.function.Function.{Function}
use Rattle.rtx_tree.specs.declared.function.Insn.{Insn}
use Rattle.rtx_tree.specs.declared.function.Kind.TheVariants.{Plain}
use Rattle.rtx_tree.specs.declared.machine.Start.{Start}
use Rattle.rtx_tree.specs.declared.machine.World.{World}
use Rattle.rtx_tree.specs.declared.tree.Rtx.{Rtx}
use Rattle.rtl_step.specs.Effect.{register_of}
use Rattle.func_run.specs.Run.{run_of, taken}
use Rattle.func_run.specs.declared.outcome.Outcome.{Outcome}
use Rattle.func_run.specs.declared.outcome.Outcome.TheVariants.{Returned, Undefined}
use Rattle.law_function_kept.specs.Ends.{EndsAtExit}
use Rattle.reg_uses.specs.Effects.{effects_of, place_is}
use Rattle.rv_text.specs.declared.line.CodeItem.{CodeItem}
use Rattle.rv_line.specs.Run as lines
use Rattle.law_window_runs.specs.same_behaviour.Lawful.{IsLawful, IsLawfulWorld, seen_by_rtl}
use Rattle.law_window_runs.specs.same_behaviour.Same.{SameOutcome}

-- what sp, ra and s0 to s11 hold at entry
abbrev pub found : Start → List (Option ℕ)
found start = Some start.sp ∷ Some start.ra ∷
    map (λ k. Some (slice_index start.saved k)) (0 ∷ 1 ∷ 2 ∷ 3 ∷ 4 ∷ 5 ∷ 6 ∷ 7 ∷ 8 ∷ 9 ∷ 10 ∷ 11 ∷ [])

-- where it has returned, they hold that
abbrev pub LeavesAsFound : Start → Outcome → Type 0
LeavesAsFound start (Returned value memory events kept) = kept ≡ found start
LeavesAsFound start _ = Unit {0}

-- The items of a function do what it does, where of the room below sp so much is there for it, its
-- locals at least, in each run that has a value, leaves sp, ra and s0 to s11 as it found them, and
-- never returns at the end of the chain.
abbrev pub SameWhereLeft : Function → List CodeItem → Type 0
SameWhereLeft f items =
    (frame size : ℕ) (start : Start) (world : World) (n : ℕ) → f.locals ≤ size → size ≤ frame →
    IsLawful frame f.locals start → IsLawfulWorld start world →
    let seen = seen_by_rtl frame size start in
    run_of f seen world n ≢ Undefined → LeavesAsFound start (run_of f seen world n) → ¬ EndsAtExit f seen world n →
    (k : ℕ) × (taken f seen world n ≤ k) × SameOutcome f.result start (run_of f seen world n) (lines.run items start world k)

-- ---- what is asked of the function

-- the register that a place is counts as it: its number is natural
abbrev pub IsNamed : Rtx → Type 0
IsNamed place = (reg : ℕ) → register_of place ≡ Some reg → 0 < reg → place_is reg place ≡ true

abbrev pub IsSetNamed : Code → List Rtx → Type 0
IsSetNamed Set (place ∷ parts) = IsNamed place
IsSetNamed _ parts = Unit {0}

-- the place of each `set` is named
abbrev pub SetsAreNamed : Function → Type 0
SetsAreNamed f = (index : ℕ) (i : Insn) → slice_get f.insns index ≡ Some i → i.kind ≡ Plain →
    All (λ x. IsSetNamed (head_of x).code (kids_of x)) (effects_of i.pattern)
