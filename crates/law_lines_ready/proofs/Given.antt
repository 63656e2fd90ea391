-- What the passes ask of a function holds of one whose instructions are placed.
use Rattle.rtx_tree.specs.declared.function.Function.{Function}
use Rattle.law_output.proofs.law_pass_needs.Places.{at_place}
use Rattle.split.specs.Left.{AreNatural}
use Rattle.law_reload.specs.law_window_replaced.Natural.{RegistersAreNatural}
use Rattle.law_window_lines.specs.ForLines.{MarksAreEmpty}
use Rattle.law_lines_ready.specs.Placed.{IsInsnPlaced, ArePlaced}

pub placed_natural : (f : Function) → ArePlaced f → AreNatural f
placed_natural f placed i here = (at_place IsInsnPlaced f.insns placed here.0 i here.1).natural

pub placed_marks : (f : Function) → ArePlaced f → MarksAreEmpty f
placed_marks f placed place reg i at mark = (at_place IsInsnPlaced f.insns placed place i at).marks mark reg

pub placed_registers : (f : Function) → ArePlaced f → RegistersAreNatural f
placed_registers f placed place i at = (at_place IsInsnPlaced f.insns placed place i at).natural
