-- When instructions are equated with instructions or with lines that stand in their place, over the
-- registers that are live behind them: each side is run symbolically, and the first item in which
-- they differ is told. What is equated does the same; what does the same may be missed.
use Rattle.std.specs.Prelude.{◌≡◌, ℕ, Bool, if◌then◌else◌, List, Option, Some, None}
use Rattle.rtx_tree.specs.declared.function.Insn.{Insn}
use Rattle.sym_state.specs.State.{Ran, Runs}
use Rattle.sym_state.specs.State as state
use Rattle.sym_insns.specs.Run as insns
use Rattle.equate.specs.Side.{Side, run_side, is_lines, both_return}
use Rattle.sym_diff.specs.Difference.{Difference}
use Rattle.sym_diff.specs.States.{difference}
use Rattle.equate.specs.Verdict.{Verdict, Same, Different, BadShape, TooLarge}

abbrev pub told : Option Difference → Verdict
told None = Same
told (Some d) = Different d

-- shapes before sizes, and both before every other item
abbrev pub judged : Bool → List ℕ → Ran → Ran → Verdict
judged of_lines live (state.BadShape index) b = BadShape index
judged of_lines live a (state.BadShape index) = BadShape index
judged of_lines live state.TooLarge b = TooLarge
judged of_lines live a state.TooLarge = TooLarge
judged of_lines live (Runs a) (Runs b) = told (difference of_lines live a b)

-- the verdict on instructions and what stands in their place
abbrev pub verdict : List Insn → Side → List ℕ → Verdict
verdict before after live =
    if both_return before after then Same else
    judged (is_lines after) live (insns.run before) (run_side after)

-- two sides that are equated
abbrev pub Equated : List Insn → Side → List ℕ → Type 0
Equated before after live = verdict before after live ≡ Same
