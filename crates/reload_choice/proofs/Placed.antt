-- A move of an operand that isn't there makes nothing.
use Rattle.std.proofs.Common.{◌≡◌, ℕ, ◌≤◌, List, [], ◌++◌, length, Option, sym, ap, ◌∙◌}
use Rattle.std.specs.Option.{option_map_or}
use Rattle.std.proofs.lemmas.List.{append-nil}
use Rattle.std.proofs.lemmas.Option.{slice_get_past}
use Rattle.rtx_tree.specs.declared.tree.Rtx.{Rtx}
use Rattle.reload_operands.specs.declared.operand.Operand.{Operand}
use Rattle.reload_moves.specs.declared.moves.Move.{Move}
use Rattle.reload_choice.specs.Insns.{insns_at, at_place}

pub none_placed : (operands : List Operand) (place : ℕ) (step : Move) (insns : List Rtx) →
    length operands ≤ place → insns ≡ insns ++ at_place operands place step
none_placed operands place step insns past =
    let none = slice_get_past operands place past in
    sym (ap (λ (o : Option Operand). insns ++ option_map_or (insns_at step) o []) none ∙ append-nil insns)
