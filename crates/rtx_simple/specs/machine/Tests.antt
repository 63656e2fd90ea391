-- Whether a rule applies, and with which constant or comparison.
use Rattle.std.specs.Prelude.{ℤ, List, [], ◌∷◌, Option, Some, None, option_map, if◌then◌else◌}
use Rattle.rtx_tree.specs.declared.code.Code.{Code}
use Rattle.rtx_tree.specs.declared.code.Code.TheVariants.{Plus}
use Rattle.rtx_tree.specs.declared.tree.Rtx.{Rtx}
use Rattle.rtx_tree.specs.Tree.{head_of, kids_of, is_constant}
use Rattle.rtx_simple.specs.Simple.{is_zero, wrapping_sum, added, tested}

-- the number of a constant
abbrev pub constant_of : Rtx → Option ℤ
constant_of a = if is_constant a then Some (head_of a).number else None

-- the constant of a sum that has one second
abbrev pub constant_added : Rtx → Option ℤ
constant_added x = option_map (λ terms. terms.1) (added x)

abbrev pub sum_of : Option ℤ → Option ℤ → Option ℤ
sum_of (Some c) (Some d) = Some (wrapping_sum c d)
sum_of _ _ = None

abbrev pub joined_by : Code → List Rtx → Option ℤ
joined_by Plus (a ∷ b ∷ []) = sum_of (constant_added a) (constant_of b)
joined_by _ kids = None

-- the constant of two sums, of which one stands first in the other
abbrev pub joined : Rtx → Option ℤ
joined x = joined_by (head_of x).code (kids_of x)

abbrev pub compared_by : Code → List Rtx → Option Code
compared_by code (c ∷ other ∷ []) = if is_zero other then tested code (head_of c).code else None
compared_by code kids = None

-- the comparison that a tree is which compares another with 0
abbrev pub compared : Rtx → Option Code
compared x = compared_by (head_of x).code (kids_of x)
