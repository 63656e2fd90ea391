-- New trees in the places of operands, and operands that stand in low parts: GCC Internals, "RTL
-- Template" and "Registers and Memory" (`subreg`). An operand's places are those of the
-- `match_operand` or `match_scratch` that gives it, and of its dups.
use Rattle.std.specs.Prelude.{ℕ, ℤ, pos, Bool, true, false, ◌&&◌, ◌||◌, ◌==◌, List, ◌∷◌, length, if◌then◌else◌, unwrap_or}
use Rattle.std.specs.Ordering.{int_eq}
use Rattle.rtx_tree.specs.declared.code.Code.{Code}
use Rattle.rtx_tree.specs.declared.code.Code.TheVariants.{Subreg}
use Rattle.rtx_tree.specs.declared.tree.Rtx.{Rtx}
use Rattle.rtx_tree.specs.declared.tree.Rtx.TheOpen.{Rtx-F}
use Rattle.rtx_tree.specs.declared.tree.Rtx.TheFolds.{fold-Rtx}
use Rattle.rtx_tree.specs.Tree.{head_of, kids_of, tree_of}
use Rattle.md_match.specs.declared.role.Role.{Role}
use Rattle.md_match.specs.declared.role.Role.TheVariants.{Operand, Operator, Itself}
use Rattle.md_match.specs.Pattern.{Ops, role_of, operand_numbered}

-- ---- new trees put in

-- each part of a tree, by what stands for it in a pattern
abbrev pub each_by : List (Rtx → Rtx) → List Rtx → List Rtx
each_by (part ∷ parts) (x ∷ xs) = part x ∷ each_by parts xs
each_by _ xs = xs

-- where a tree has other parts than the pattern has there, they stay
abbrev pub parts_by : List (Rtx → Rtx) → List Rtx → List Rtx
parts_by parts xs = if length parts == length xs then each_by parts xs else xs

-- In the place of an operand for which there is a new tree, this stands. All else is the tree's
-- own: the head, also under an operator, and over the parts as they are made.
abbrev pub put_as : Role → Ops → ℤ → List (Rtx → Rtx) → Rtx → Rtx
put_as Operand news number parts x = unwrap_or (operand_numbered news number) x
put_as Operator news number parts x = tree_of (head_of x) (parts_by parts (kids_of x))
put_as Itself news number parts x = tree_of (head_of x) (parts_by parts (kids_of x))

abbrev pub put_step : Ops → Rtx-F (Rtx → Rtx) → Rtx → Rtx
put_step news p = put_as (role_of p.code) news p.number p.kids

-- what a pattern makes of a tree that it matches, homes apart, where there are new trees for some
-- operands
unfoldable pub put : Rtx → Ops → Rtx → Rtx
put pattern news = fold-Rtx (Rtx → Rtx) (put_step news) pattern

-- ---- low parts

abbrev pub is_lowpart_code : Code → Bool
is_lowpart_code Subreg = true
is_lowpart_code _ = false

abbrev pub is_lowpart : Rtx → Bool
is_lowpart x = is_lowpart_code (head_of x).code

-- whether an operand has a place in a tree inside a low part, by whether the tree is inside one
abbrev pub Inside : Type 0
Inside = Bool → Rtx → Bool

abbrev pub any_inside : List Inside → Bool → List Rtx → Bool
any_inside (part ∷ parts) inside (x ∷ xs) = part inside x || any_inside parts inside xs
any_inside _ inside xs = false

-- an operand or an operator itself
abbrev pub is_inside : ℕ → ℤ → Bool → Bool
is_inside k number inside = inside && int_eq number (pos k)

abbrev pub inside_parts : List Inside → Bool → Rtx → Bool
inside_parts parts inside x = any_inside parts (inside || is_lowpart x) (kids_of x)

abbrev pub inside_as : ℕ → Role → ℤ → List Inside → Inside
inside_as k Operand number parts inside x = is_inside k number inside
inside_as k Operator number parts inside x =
    is_inside k number inside || inside_parts parts inside x
inside_as k Itself number parts inside x = inside_parts parts inside x

abbrev pub inside_step : ℕ → Rtx-F Inside → Inside
inside_step k p = inside_as k (role_of p.code) p.number p.kids

unfoldable pub inside_low : ℕ → Rtx → Bool → Rtx → Bool
inside_low k pattern = fold-Rtx Inside (inside_step k) pattern

-- an operand of a pattern has a place inside a low part, of the pattern's or of one that an
-- operator matches, in a tree that the pattern matches
abbrev pub in_lowpart : Rtx → Rtx → ℕ → Bool
in_lowpart pattern x k = inside_low k pattern false x
