-- The first item in which two symbolic states differ, over the registers that are live behind.
use Rattle.std.specs.Prelude.{ℕ, Bool, List, Option}
use Rattle.sym_state.specs.State.{State}
use Rattle.sym_diff.specs.Difference.{Difference, or_else}
use Rattle.sym_diff.specs.Registers.{compared_registers}
use Rattle.sym_diff.specs.Compared.{compared_stores, compared_jump, compared_calls, compared_needs}

-- the first item that fails: registers, stores, the jump, the call, needs
abbrev pub difference : Bool → List ℕ → State → State → Option Difference
difference of_lines live a b =
    or_else (compared_registers live a b) (
    or_else (compared_stores 0 a.stores b.stores) (
    or_else (compared_jump a.jump b.jump) (
    or_else (compared_calls of_lines a.call b.call) (compared_needs a.needs b.needs))))
