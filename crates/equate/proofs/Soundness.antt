-- What is equated does the same.
use Rattle.std.proofs.Common.{◌≡◌, ℕ, ◌&&◌, Bool, true, false, List, refl}
use Rattle.rtx_tree.specs.declared.function.Insn.{Insn}
use Rattle.rv_text.specs.declared.line.Line.{Line}
use Rattle.sym_diff.specs.Registers.{is_live}
use Rattle.law_insns_agree.specs.law_window_runs.Same.{DoSame}
use Rattle.law_insns_agree.specs.law_window_kept.Same.{CanReplace}
use Rattle.law_insns_agree.proofs.law_states_agree.Agreeing.{agreeing_does}
use Rattle.law_insns_agree.proofs.Keeping.{agreeing_keeps}
use Rattle.equate.specs.Side.{Insns, Lines, is_one_return, both_return}
use Rattle.equate.specs.Equated.{Equated}
use Rattle.equate.specs.Sound.{EquatedDoesSame, EquatedKeeps}
use Rattle.equate.proofs.VerdictLaws.{verdict_same}

-- over any of the registers that are live
pub few_do : (before : List Insn) (number : ℕ) (lines : List Line) (live : List ℕ) → Equated before (Lines number lines) live → both_return before (Lines number lines) ≡ false →
    (Few : ℕ → Type 0) → ((reg : ℕ) → Few reg → is_live live reg ≡ true) → DoSame number before lines Few
few_do before number lines live equated other Few few =
    let alike = verdict_same before (Lines number lines) live equated other in
    agreeing_does number before lines live Few few alike.first alike.second alike.runs_first alike.runs_second alike.agree

pub equated_does : EquatedDoesSame
equated_does before number lines live equated other = few_do before number lines live equated other (λ reg. is_live live reg ≡ true) (λ reg lives. lives)

-- instructions are no line that returns
pub no_return : (before after : List Insn) → both_return before (Insns after) ≡ false
no_return before after = by (is_one_return before)
  where
    by : (b : Bool) → (b && false) ≡ false
    by true = refl
    by false = refl

-- over any of the registers that are live
pub few_keep : (before after : List Insn) (live : List ℕ) → Equated before (Insns after) live → (Few : ℕ → Type 0) → ((reg : ℕ) → Few reg → is_live live reg ≡ true) → CanReplace before after Few
few_keep before after live equated Few few =
    let alike = verdict_same before (Insns after) live equated (no_return before after) in
    agreeing_keeps before after live Few few alike.first alike.second alike.runs_first alike.runs_second alike.agree

pub equated_keeps : EquatedKeeps
equated_keeps before after live equated = few_keep before after live equated (λ reg. is_live live reg ≡ true) (λ reg lives. lives)
