-- A function whose windows are rewritten behind the frame does what it did, and its instructions are placed still.
use Rattle.std.proofs.Common.{List, Ok}
use Rattle.rtx_tree.specs.declared.function.Function.{Function}
use Rattle.md_forms.specs.declared.form.Entry.{Entry}
use Rattle.law_function_kept.specs.Keeps.{Keeps}
use Rattle.law_window_placed.specs.law_lines_ready.Placed.{ArePlaced}
use Rattle.law_window_placed.proofs.law_lines_ready.Given.{placed_marks, placed_registers}
use Rattle.law_window_placed.proofs.Window.{window_placed}
use Rattle.peep2.specs.Cover.{CoverComes}
use Rattle.peep2.proofs.Kept.{kept}
use Rattle.peep2.proofs.Sound.{peepholes_do}

module _ (forms : List Entry) (f g : Function) (placed : ArePlaced f) (comes : CoverComes forms f (Ok g)) where
  pub peepholes_placed : ArePlaced g
  peepholes_placed = kept forms ArePlaced window_placed f g comes placed

  pub peepholes_keep : Keeps f g × ArePlaced g
  peepholes_keep = (peepholes_do forms f g (placed_marks f placed) (placed_registers f placed) comes, peepholes_placed)
