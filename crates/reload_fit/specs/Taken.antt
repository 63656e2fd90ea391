-- Whether the constraint of an operand admits one of the registers t3 to t6, which hold what is
-- moved: GCC Internals, "Simple Constraints" (registers, digits).
use Rattle.std.specs.Prelude.{ℕ, Bool, false, ◌&&◌, ◌||◌, List, slice_get}
use Rattle.std.specs.List.{list_any}
use Rattle.std.specs.Option.{option_map_or}
use Rattle.rtx_tree.specs.declared.code.Mode.{Mode}
use Rattle.rtx_tree.specs.declared.tree.Rtx.{Rtx}
use Rattle.rtx_tree.specs.Tree.{reg_of}
use Rattle.reload_operands.specs.declared.operand.Operand.{Operand}
use Rattle.reload_moves.specs.declared.fitting.Fitting.{Fitting}
use Rattle.reload_moves.specs.Moved.{is_marked, led_from}
use Rattle.reload_fit.specs.Fitting.{Asks}

abbrev pub admits_at : Asks → List Operand → Rtx → ℕ → Bool
admits_at asks operands x place =
    option_map_or (λ y. asks.admits y.number x) (slice_get operands place) false

abbrev pub is_admitting : Asks → List Operand → List Bool → Rtx → Fitting → Bool
is_admitting asks operands row x f = is_marked row f.place && admits_at asks operands x f.place

-- A digit admits what the constraint of the operand that it names admits.
abbrev pub admits_through : Asks → List Operand → List Fitting → List Bool → Rtx → Bool
admits_through asks operands fits row x = list_any (is_admitting asks operands row x) fits

abbrev pub takes : Asks → List Operand → List Fitting → List Bool → Mode → ℕ → Bool
takes asks operands fits row mode reg = admits_through asks operands fits row (reg_of mode reg)

-- one of t3 to t6
abbrev pub takes_one : Asks → List Operand → List Fitting → List Bool → Mode → Bool
takes_one asks operands fits row mode =
    takes asks operands fits row mode 28 || (takes asks operands fits row mode 29 || (takes asks operands fits row mode 30 || takes asks operands fits row mode 31))

-- the constraint of the operand at a place admits one of t3 to t6 in a mode, by itself or through
-- digits
abbrev pub takes_register : Asks → List Operand → List Fitting → ℕ → Mode → Bool
takes_register asks operands fits place mode =
    takes_one asks operands fits (led_from fits place) mode
