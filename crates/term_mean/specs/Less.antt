-- Whether a number is less than another.
use Rattle.std.specs.Prelude.{ℕ, zero, suc, ◌==◌, if◌then◌else◌, Bool, false, Option, Some, None}
use Rattle.std.specs.declared.cmp.Ordering.{Ordering}
use Rattle.std.specs.declared.cmp.Ordering.TheVariants.{Less, Equal, Greater}
use Rattle.bits64.specs.declared.Width.{Width}
use Rattle.bits64.specs.declared.Width.TheVariants.{W8}
use Rattle.term_tree.specs.declared.head.Head.{Head}
use Rattle.term_tree.specs.declared.head.Head.TheVariants as heads
use Rattle.term_tree.specs.declared.head.Extension.{Extension}
use Rattle.term_tree.specs.declared.head.Extension.TheVariants.{Zero, Sign}
use Rattle.term_tree.specs.Tree.{Tree}
use Rattle.term_tree.specs.Order.{tree_cmp}
use Rattle.term_mean.specs.Sums.{constant, constant_in}
use Rattle.term_mean.specs.Shifts.{two_parts, on_constants}
use Rattle.term_mean.specs.Truths.{opposite}
use Rattle.term_mean.specs.Zero.{Operands, operands_in, equals_zero}

-- the signed comparison, and the unsigned one
abbrev pub less_head : Extension → Head
less_head Sign = heads.Lt
less_head Zero = heads.Ltu

-- ---- unsigned, below 1 is 0, and above 0 is not 0

abbrev pub is_number : Option ℕ → ℕ → Bool
is_number (Some c) n = c == n
is_number None n = false

abbrev pub less_bounds_unsigned : Width → Tree → Tree → Tree
less_bounds_unsigned w a b =
    if is_number (constant_in b) 1 then equals_zero w a else (if is_number (constant_in a) 0 then opposite (equals_zero w b) else two_parts heads.Ltu w a b)

abbrev pub less_bounds : Extension → Width → Tree → Tree → Tree
less_bounds Sign w a b = two_parts heads.Lt w a b
less_bounds Zero w a b = less_bounds_unsigned w a b

-- ---- extensions by the sign keep both orders; those by zeros keep the unsigned one, and make the signed one of it

abbrev pub less_kind : Extension → Extension → Extension
less_kind Sign Sign = Sign
less_kind Sign Zero = Zero
less_kind Zero Sign = Zero
less_kind Zero Zero = Zero

abbrev pub less_extended : Option Operands → (Extension → Width → Tree → Tree → Tree) → Extension →
    Width → Tree → Tree → Tree
less_extended (Some x) again e w a b = again (less_kind e x.kind) x.width x.left x.right
less_extended None again e w a b = less_bounds e w a b

-- ---- nothing is less than itself

abbrev pub less_unless : Ordering → (Extension → Width → Tree → Tree → Tree) → Extension → Width →
    Tree → Tree → Tree
less_unless Equal again e w a b = constant W8 0
less_unless Less again e w a b = less_extended (operands_in w a b) again e w a b
less_unless Greater again e w a b = less_extended (operands_in w a b) again e w a b

abbrev pub less_step : (Extension → Width → Tree → Tree → Tree) → Extension → Width → Tree → Tree →
    Tree
less_step again e w a b =
    on_constants (constant_in a) (constant_in b) (less_head e) w (less_unless (tree_cmp a b) again e w a b)

-- a comparison of what was extended is made by the same rules, at a narrower width: that happens
-- three times at most
unfoldable pub less_test : ℕ → Extension → Width → Tree → Tree → Tree
less_test zero e w a b = two_parts (less_head e) w a b
less_test (suc n) e w a b = less_step (less_test n) e w a b

abbrev pub less_than : Extension → Width → Tree → Tree → Tree
less_than e w a b = less_test 4 e w a b
