-- A verdict asks of the live registers only which they are.
use Rattle.std.proofs.Common.{◌≡◌, ℕ, Bool, not, ◌&&◌, ◌||◌, nat_le, if◌then◌else◌, List, [], ◌∷◌, Option, Some, None, is_some, refl, ap, ◌∙◌}
use Rattle.rtx_tree.specs.Registers.{virtual_stack_vars}
use Rattle.rtx_tree.specs.RegSet.{has_reg}
use Rattle.rtx_tree.specs.declared.function.Insn.{Insn}
use Rattle.term_tree.specs.Tree.{Tree}
use Rattle.sym_state.specs.State.{Changed, State, Ran, Runs}
use Rattle.sym_state.specs.State as state
use Rattle.sym_state.specs.Registers.{held}
use Rattle.sym_insns.specs.Run as insns
use Rattle.sym_diff.specs.Difference.{Difference, or_else}
use Rattle.sym_diff.specs.Registers.{is_passed_over, is_free, agrees, value_behind, register_difference, compared_register, compared_all, one_calls, changed_in}
use Rattle.sym_diff.specs.Compared.{compared_stores, compared_jump, compared_calls, compared_needs}
use Rattle.sym_diff.specs.States.{difference}
use Rattle.equate.specs.Side.{Side, run_side, is_lines, both_return}
use Rattle.equate.specs.Verdict.{Verdict, Same}
use Rattle.equate.specs.Equated.{told, judged, verdict}

-- two lists have the same registers
abbrev pub AreAlike : List ℕ → List ℕ → Type 0
AreAlike live other = (reg : ℕ) → has_reg live reg ≡ has_reg other reg

module _ (live other : List ℕ) (alike : AreAlike live other) where
  one_register : (calls : Bool) (a b : Option (Option Tree)) (reg : ℕ) → compared_register calls live a b reg ≡ compared_register calls other a b reg
  one_register calls a b reg =
      ap (λ (l : Bool). if not (is_passed_over calls reg) && ((nat_le reg virtual_stack_vars && (not (is_some a) && (is_some b && not (is_free reg && not l)))) || (l && not (agrees (value_behind a reg) (value_behind b reg))))
      then Some (register_difference a b reg) else None) (alike reg)

  all_registers : (calls : Bool) (a b : List Changed) (regs : List ℕ) → compared_all calls live a b regs ≡ compared_all calls other a b regs
  all_registers calls a b [] = refl
  all_registers calls a b (reg ∷ regs) =
      ap (λ (d : Option Difference). or_else d (compared_all calls live a b regs)) (one_register calls (held a reg) (held b reg) reg)
      ∙ ap (λ (d : Option Difference). or_else (compared_register calls other (held a reg) (held b reg) reg) d) (all_registers calls a b regs)

  states : (of_lines : Bool) (a b : State) → difference of_lines live a b ≡ difference of_lines other a b
  states of_lines a b =
      ap (λ (d : Option Difference). or_else d (or_else (compared_stores 0 a.stores b.stores) (or_else (compared_jump a.jump b.jump) (or_else (compared_calls of_lines a.call b.call) (compared_needs a.needs b.needs)))))
      (all_registers (one_calls a b) a.regs b.regs (changed_in b.regs (changed_in a.regs [])))

  runs : (of_lines : Bool) (a b : Ran) → judged of_lines live a b ≡ judged of_lines other a b
  runs of_lines (state.BadShape index) b = refl
  runs of_lines state.TooLarge (state.BadShape index) = refl
  runs of_lines state.TooLarge state.TooLarge = refl
  runs of_lines state.TooLarge (Runs b) = refl
  runs of_lines (Runs a) (state.BadShape index) = refl
  runs of_lines (Runs a) state.TooLarge = refl
  runs of_lines (Runs a) (Runs b) = ap told (states of_lines a b)

  -- over either there is the same verdict
  pub one_verdict : (before : List Insn) (after : Side) → verdict before after live ≡ verdict before after other
  one_verdict before after =
      ap (λ (v : Verdict). if both_return before after then Same else v) (runs (is_lines after) (insns.run before) (run_side after))
