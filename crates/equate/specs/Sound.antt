-- What is equated does the same: lines of a function, or other instructions, that are equated with
-- instructions in whose place they stand do what these do, over the registers that are live behind.
-- One (return) and the line that leads back to the caller are the case apart: neither leads on.
use Rattle.std.specs.Prelude.{◌≡◌, ℕ, true, false, List}
use Rattle.rtx_tree.specs.declared.function.Insn.{Insn}
use Rattle.rv_text.specs.declared.line.Line.{Line}
use Rattle.sym_diff.specs.Registers.{is_live}
use Rattle.law_insns_agree.specs.law_window_runs.Same.{DoSame}
use Rattle.law_insns_agree.specs.law_window_kept.Same.{CanReplace}
use Rattle.equate.specs.Side.{Insns, Lines, both_return}
use Rattle.equate.specs.Equated.{Equated}

abbrev pub EquatedDoesSame : Type 0
EquatedDoesSame =
    (before : List Insn) (number : ℕ) (lines : List Line) (live : List ℕ) →
    Equated before (Lines number lines) live → both_return before (Lines number lines) ≡ false →
    DoSame number before lines (λ reg. is_live live reg ≡ true)

-- instructions can stand in the place of those with which they are equated
abbrev pub EquatedKeeps : Type 0
EquatedKeeps =
    (before after : List Insn) (live : List ℕ) → Equated before (Insns after) live →
    CanReplace before after (λ reg. is_live live reg ≡ true)
