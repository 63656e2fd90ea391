-- An input has no more functions than bytes: each function is a tree, and each tree has a byte.
use Rattle.std.specs.Prelude.{◌≤◌, ℕ, List, length}
use Rattle.rtx_tree.specs.declared.function.Function.{Function}
use Rattle.func_input.specs.Input.{IsRead}

abbrev pub FewFunctions : Type 0
FewFunctions =
    (bytes : List ℕ) (functions : List Function) → IsRead bytes functions →
    length functions ≤ length bytes
