-- What an expression becomes where another was put into it: GCC Internals, "Insn Canonicalizations"
-- and "RTL Expressions for Arithmetic", "Conversions", "Comparison Operations".
use Rattle.std.specs.Prelude.{ℕ, zero, suc, ℤ, pos, ◌+ℤ◌, ◌≡◌, Bool, true, false, ◌&&◌, not, List, [], ◌∷◌, Option, Some, None, IfSome, option_map, option_and_then, unwrap_or, if◌then◌else◌}
use Rattle.std.specs.Int.{int_wrap, w64}
use Rattle.std.specs.Option.{option_or}
use Rattle.std.specs.Ordering.{int_eq}
use Rattle.rtx_tree.specs.declared.code.Code.{Code}
use Rattle.rtx_tree.specs.declared.code.Code.TheVariants.{Subreg, Plus, Mult, And, Ior, Xor, Eq, Ne}
use Rattle.rtx_tree.specs.declared.code.Mode.{Mode}
use Rattle.rtx_tree.specs.declared.class.Class.{Class}
use Rattle.rtx_tree.specs.declared.class.Class.TheVariants as class
use Rattle.rtx_tree.specs.declared.tree.Rtx.{Rtx, roll-Rtx}
use Rattle.rtx_tree.specs.declared.tree.Rtx.TheFolds.{fold-Rtx}
use Rattle.rtx_tree.specs.Code.{class_of_code, is_comparison_class, reversed, same_mode}
use Rattle.rtx_tree.specs.Tree.{RtxHead, is_constant, head_of, kids_of, tree_of, node_of, const_of, part_at}

-- ---- constants

abbrev pub is_zero : Rtx → Bool
is_zero x = is_constant x && int_eq (head_of x).number (pos 0)

-- ---- an extension of a constant is the constant

abbrev pub extended_by : Class → List Rtx → Option Rtx
extended_by class.Extension (a ∷ []) = Some a
extended_by _ kids = None

-- what a sign or zero extension extends
abbrev pub extended : Rtx → Option Rtx
extended x = extended_by (class_of_code (head_of x).code) (kids_of x)

abbrev pub where_constant : Rtx → Option Rtx
where_constant a = if is_constant a then Some a else None

unfoldable pub extended_constant : Rtx → Option Rtx
extended_constant x = option_and_then where_constant (extended x)

-- ---- (plus (plus x c1) c2) is (plus x c1+c2), the sum as it stands in 64 signed bits

-- the sum of two numbers in 64 signed bits
abbrev pub wrapping_sum : ℤ → ℤ → ℤ
wrapping_sum c d = int_wrap w64 (c +ℤ d)

abbrev pub terms_by : Code → List Rtx → Option (Rtx × Rtx)
terms_by Plus (a ∷ b ∷ []) = Some (a, b)
terms_by _ kids = None

-- the two terms of a sum
abbrev pub terms_of : Rtx → Option (Rtx × Rtx)
terms_of x = terms_by (head_of x).code (kids_of x)

-- what a sum adds to an expression, where its second term is a constant
abbrev pub added_by : Rtx × Rtx → Option (Rtx × ℤ)
added_by terms = if is_constant terms.1 then Some (terms.0, (head_of terms.1).number) else None

abbrev pub added : Rtx → Option (Rtx × ℤ)
added x = option_and_then added_by (terms_of x)

-- a sum to which a constant more is added
abbrev pub with_added : Mode → ℤ → Rtx × ℤ → Rtx
with_added mode d inner = node_of Plus mode (inner.0 ∷ const_of (wrapping_sum inner.1 d) ∷ [])

unfoldable pub joined_constants : Rtx → Option Rtx
joined_constants x = option_and_then (λ outer. option_map (with_added (head_of x).mode outer.1) (added outer.0)) (added x)

-- ---- (plus x 0) is x

abbrev pub where_zero : Rtx × Rtx → Option Rtx
where_zero terms = if is_zero terms.1 then Some terms.0 else None

unfoldable pub without_zero : Rtx → Option Rtx
without_zero x = option_and_then where_zero (terms_of x)

-- ---- (ne C 0) is the comparison C and (eq C 0) its reverse, in the outer mode

-- the comparison that a test of another with 0 is
abbrev pub tested : Code → Code → Option Code
tested Ne inner = if is_comparison_class (class_of_code inner) then Some inner else None
tested Eq inner = reversed inner
tested _ inner = None

abbrev pub compared_by : Code → Mode → List Rtx → Option Rtx
compared_by code mode (c ∷ other ∷ []) = if is_zero other then option_map (λ own. node_of own mode (kids_of c)) (tested code (head_of c).code) else None
compared_by code mode kids = None

unfoldable pub compared_with_zero : Rtx → Option Rtx
compared_with_zero x = compared_by (head_of x).code (head_of x).mode (kids_of x)

-- ---- the low part of an extension of x, in x's mode, is x

abbrev pub lowpart_by : Code → List Rtx → Option Rtx
lowpart_by Subreg (a ∷ []) = Some a
lowpart_by _ kids = None

-- of what a tree is the low part
abbrev pub lowpart_of : Rtx → Option Rtx
lowpart_of x = lowpart_by (head_of x).code (kids_of x)

abbrev pub where_mode : Mode → Rtx → Option Rtx
where_mode mode a = if same_mode (head_of a).mode mode then Some a else None

unfoldable pub extension_cut : Rtx → Option Rtx
extension_cut x = option_and_then (where_mode (head_of x).mode) (option_and_then extended (lowpart_of x))

-- ---- the constant of a sum, a product, an and, an or stands second

abbrev pub is_exchangeable : Code → Bool
is_exchangeable Plus = true
is_exchangeable Mult = true
is_exchangeable And = true
is_exchangeable Ior = true
is_exchangeable Xor = true
is_exchangeable _ = false

abbrev pub exchanged_by : RtxHead → List Rtx → Option Rtx
exchanged_by h (a ∷ b ∷ []) = if is_constant a && not (is_constant b) then Some (tree_of h (b ∷ a ∷ [])) else None
exchanged_by h kids = None

unfoldable pub constant_second : Rtx → Option Rtx
constant_second x = if is_exchangeable (head_of x).code then exchanged_by (head_of x) (kids_of x) else None

-- ---- all of them

-- what the first of the rules that applies makes of an expression
unfoldable pub once : Rtx → Option Rtx
once x =
    option_or (extended_constant x)
    (option_or (joined_constants x)
    (option_or (without_zero x)
    (option_or (compared_with_zero x)
    (option_or (extension_cut x) (constant_second x)))))

-- the rules applied one behind the other, so often at most
abbrev pub settled : ℕ → Rtx → Rtx
settled zero x = x
settled (suc n) x = unwrap_or (option_map (settled n) (once x)) x

-- the parts first, and then the whole, to which three apply at most: a constant goes behind, joins,
-- and is dropped where it is 0
unfoldable pub simplified : Rtx → Rtx
simplified = fold-Rtx Rtx (λ x. settled 3 (roll-Rtx x))

-- no rule applies to the expression or to any part of it
abbrev pub IsSimple : Rtx → Type 0
IsSimple x = (path : List ℕ) → IfSome (part_at x path) (λ part. once part ≡ None)
