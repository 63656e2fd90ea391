-- Operands by number: GCC Internals, "RTL Template".
use Rattle.std.specs.Prelude.{ℕ, zero, suc, List, [], ◌∷◌, Option, Some, None, slice_get, option_and_then}
use Rattle.rtx_tree.specs.declared.tree.Rtx.{Rtx}

-- the tree with a number, if there is one
abbrev pub operand_at : List (Option Rtx) → ℕ → Option Rtx
operand_at operands k = option_and_then (λ o. o) (slice_get operands k)

-- the operands with a tree at a number, and none at the new numbers below it
abbrev pub put_at : List (Option Rtx) → ℕ → Rtx → List (Option Rtx)
put_at [] zero tree = Some tree ∷ []
put_at [] (suc k) tree = None ∷ put_at [] k tree
put_at (o ∷ operands) zero tree = Some tree ∷ operands
put_at (o ∷ operands) (suc k) tree = o ∷ put_at operands k tree
