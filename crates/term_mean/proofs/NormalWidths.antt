-- A normal form has the width of its term.
use Rattle.std.proofs.Common.{◌≡◌, ℕ, zero, suc, ◌%◌, ◌/◌, ◌^◌, refl, sym, ◌∙◌, cond, Bool, true, false, ◌&&◌, List, [], ◌∷◌, Option, Some, None}
use Rattle.std.specs.declared.cmp.Ordering.{Ordering}
use Rattle.std.specs.declared.cmp.Ordering.TheVariants.{Less, Equal, Greater}
use Rattle.bits64.specs.declared.Width.{Width}
use Rattle.bits64.specs.declared.Width.TheVariants.{W8}
use Rattle.bits64.specs.Words.{bits_of}
use Rattle.bits64.specs.declared.operator.Opaque.{Opaque}
use Rattle.bits64.specs.declared.operator.Taking.{Taking}
use Rattle.bits64.specs.declared.operator.Taking.TheVariants.{Alone, Pair, Counted}
use Rattle.bits64.specs.Operators.{opaque_taking}
use Rattle.term_tree.specs.declared.head.Head.{Head}
use Rattle.term_tree.specs.declared.head.Head.TheVariants as heads
use Rattle.term_tree.specs.declared.head.Joint.TheVariants.{Mul, And, Ior, Xor}
use Rattle.term_tree.specs.declared.head.Extension.{Extension}
use Rattle.term_tree.specs.declared.head.Extension.TheVariants.{Zero, Sign}
use Rattle.term_tree.specs.Tree.{Tree, Sum, Node, no_trees, tree, width_of, own_width, tree_size}
use Rattle.term_tree.specs.Form.{same_width}
use Rattle.term_tree.specs.Order.{tree_cmp}
use Rattle.term_tree.proofs.OrderLaws.{same_width-true}
use Rattle.term_mean.specs.Stores.{Store}
use Rattle.term_mean.specs.Sums.{constant, constant_in, sum, minus}
use Rattle.term_mean.specs.Masks.{made_at, cut_to, low_8}
use Rattle.term_mean.specs.Shifts.{two_parts, on_constant, on_constants, opaque_one, plain_two, opaque_two, left_of, divides, divides_all, quotients, exact, right_exact, by_constant, by_count, shifted_by}
use Rattle.term_mean.specs.Truths.{is_truth, opposite}
use Rattle.term_mean.specs.Zero.{nearer, Operands, operands_in, as_difference, zero_extended_test, zero_difference, zero_xor, zero_constant, zero_test, equals_zero}
use Rattle.term_mean.specs.Less.{less_head, is_number, less_bounds, less_kind, less_extended, less_unless, less_test}
use Rattle.term_mean.specs.Normal.{built_one, built_two, built_parts, built, normal, normal_atoms, normal_all}
use Rattle.term_mean.proofs.Widths.{width-cond, width-plus_times, width-summed, width-extended}
use Rattle.term_mean.proofs.MaskLaws.{width-made_at, width-cut_to}
use Rattle.term_mean.proofs.ExactLaws.{exact_head}

width-on_constants : (o p : Option ℕ) (h : Head) (w : Width) (other : Tree) → width_of other ≡ own_width h w → width_of (on_constants o p h w other) ≡ own_width h w
width-on_constants (Some x) (Some y) h w other e = refl
width-on_constants (Some x) None h w other e = e
width-on_constants None p h w other e = e

width-opaque_one : (o : Opaque) (w : Width) (a : Tree) → width_of (opaque_one o w a) ≡ w
width-opaque_one o w a = go (constant_in a)
  where
    go : (c : Option ℕ) → width_of (on_constant c o w a) ≡ w
    go (Some x) = refl
    go None = refl

width-plain_two : (o : Opaque) (w : Width) (a b : Tree) → width_of (plain_two o w a b) ≡ w
width-plain_two o w a b = width-on_constants (constant_in a) (constant_in b) (heads.Opaque o) w (two_parts (heads.Opaque o) w a b) refl

width-opaque_two : (t : Taking) (o : Opaque) (w : Width) (a b : Tree) → width_of (opaque_two t o w a b) ≡ w
width-opaque_two Alone o w a b = width-plain_two o w a b
width-opaque_two Pair o w a b = width-plain_two o w a b
width-opaque_two Counted o w a b = width-plain_two o w a (low_8 b)

-- ---- shifts
width-right_exact : (o : Option Width) (e : Extension) (w : Width) (k : ℕ) (a b : Tree) → width_of (right_exact o (exact_head e) e w k a b) ≡ w
width-right_exact (Some m) e w k (Sum u c xs) b =
    width-cond (same_width u w && (divides (2 ^ k) c && divides_all (2 ^ k) xs)) w (exact e w m (2 ^ k) c xs) (two_parts (exact_head e) w (Sum u c xs) b) (width-extended (made_at w) e w (cut_to m (sum w (c / 2 ^ k) (quotients (2 ^ k) xs))) (width-made_at w)) (own e)
  where
    own : (e : Extension) → own_width (exact_head e) w ≡ w
    own Zero = refl
    own Sign = refl
width-right_exact (Some m) Zero w k (Node h u n s ps) b = refl
width-right_exact (Some m) Sign w k (Node h u n s ps) b = refl
width-right_exact None Zero w k a b = refl
width-right_exact None Sign w k a b = refl

width-zero_count : (h : Head) (w : Width) (a : Tree) → own_width h w ≡ w → width_of (by_constant h w a 0) ≡ w
width-zero_count h w a own = go (same_width (width_of a) w) refl
  where
    go : (b : Bool) → same_width (width_of a) w ≡ b → width_of (cond b a (two_parts h w a (constant W8 0))) ≡ w
    go true e = same_width-true (width_of a) w e
    go false e = own

width-by_constant : (e : Extension) (w : Width) (a : Tree) (k : ℕ) → width_of (by_constant (exact_head e) w a k) ≡ w
width-by_constant Zero w a zero = width-zero_count heads.Shr w a refl
width-by_constant Sign w a zero = width-zero_count heads.Sar w a refl
width-by_constant Zero w a (suc k) = width-right_exact (left_of w (suc k)) Zero w (suc k) a (constant W8 (suc k))
width-by_constant Sign w a (suc k) = width-right_exact (left_of w (suc k)) Sign w (suc k) a (constant W8 (suc k))

width-left_constant : (w : Width) (a : Tree) (k : ℕ) → width_of (by_constant heads.Shl w a k) ≡ w
width-left_constant w a zero = width-zero_count heads.Shl w a refl
width-left_constant w a (suc k) = width-plus_times w (constant w 0) (2 ^ suc k) a

width-left : (w : Width) (a b : Tree) → width_of (shifted_by heads.Shl w a b) ≡ w
width-left w a b = width-on_constants (constant_in a) (constant_in b) heads.Shl w (by_count (constant_in b) heads.Shl w a b) (go (constant_in b))
  where
    go : (o : Option ℕ) → width_of (by_count o heads.Shl w a b) ≡ w
    go (Some k) = width-left_constant w a (k % bits_of w)
    go None = refl

width-logical : (w : Width) (a b : Tree) → width_of (shifted_by heads.Shr w a b) ≡ w
width-logical w a b = width-on_constants (constant_in a) (constant_in b) heads.Shr w (by_count (constant_in b) heads.Shr w a b) (go (constant_in b))
  where
    go : (o : Option ℕ) → width_of (by_count o heads.Shr w a b) ≡ w
    go (Some k) = width-by_constant Zero w a (k % bits_of w)
    go None = refl

width-arithmetic : (w : Width) (a b : Tree) → width_of (shifted_by heads.Sar w a b) ≡ w
width-arithmetic w a b = width-on_constants (constant_in a) (constant_in b) heads.Sar w (by_count (constant_in b) heads.Sar w a b) (go (constant_in b))
  where
    go : (o : Option ℕ) → width_of (by_count o heads.Sar w a b) ≡ w
    go (Some k) = width-by_constant Sign w a (k % bits_of w)
    go None = refl

-- ---- tests for 0
abbrev TestsIn8 : (Width → Tree → Tree) → Type 0
TestsIn8 f = (w : Width) (t : Tree) → width_of (f w t) ≡ W8

width-opposite : (t : Tree) → width_of (opposite t) ≡ W8
width-opposite t = width-made_at W8 Xor (constant W8 1 ∷ t ∷ [])

width-extended_test : (again : Width → Tree → Tree) (w : Width) (t : Tree) (o : Option Operands) → TestsIn8 again → width_of (zero_extended_test o again w t) ≡ W8
width-extended_test again w t (Some x) ih = ih x.width (minus x.width x.left x.right)
width-extended_test again w t None ih = refl

width-zero_difference : (again : Width → Tree → Tree) (w : Width) (t : Tree) → TestsIn8 again → width_of (zero_difference again w t) ≡ W8
width-zero_difference again w t ih = width-extended_test again w t (operands_in w (as_difference w t).0 (as_difference w t).1) ih

width-zero_xor : (again : Width → Tree → Tree) (w : Width) (t : Tree) → TestsIn8 again → width_of (zero_xor again w t) ≡ W8
width-zero_xor again w (Node heads.Xor u n s (tree a (tree b no_trees))) ih =
    width-cond (same_width u w) W8 (again w (minus w a b)) (zero_difference again w (Node heads.Xor u n s (tree a (tree b no_trees)))) (ih w (minus w a b)) (width-zero_difference again w (Node heads.Xor u n s (tree a (tree b no_trees))) ih)
width-zero_xor again w t ih = width-zero_difference again w t ih

width-zero_constant : (again : Width → Tree → Tree) (w : Width) (t : Tree) (o : Option ℕ) → TestsIn8 again → width_of (zero_constant o again w t) ≡ W8
width-zero_constant again w t (Some c) ih = refl
width-zero_constant again w t None ih = width-cond (is_truth t) W8 (opposite (low_8 t)) (zero_xor again w t) (width-opposite (low_8 t)) (width-zero_xor again w t ih)

width-zero_test : (n : ℕ) → TestsIn8 (zero_test n)
unfolding zero_test
width-zero_test zero w t = refl
width-zero_test (suc n) w t = width-zero_constant (zero_test n) w (nearer w t) (constant_in (nearer w t)) (width-zero_test n)

pub width-equals_zero : (w : Width) (t : Tree) → width_of (equals_zero w t) ≡ W8
width-equals_zero w t = width-zero_test (tree_size t) w t

-- ---- comparisons
abbrev LessIn8 : (Extension → Width → Tree → Tree → Tree) → Type 0
LessIn8 f = (e : Extension) (w : Width) (a b : Tree) → width_of (f e w a b) ≡ W8

width-less_parts : (e : Extension) (w : Width) (a b : Tree) → width_of (two_parts (less_head e) w a b) ≡ W8
width-less_parts Zero w a b = refl
width-less_parts Sign w a b = refl

width-less_bounds : LessIn8 less_bounds
width-less_bounds Sign w a b = refl
width-less_bounds Zero w a b =
    width-cond (is_number (constant_in b) 1) W8 (equals_zero w a) (cond (is_number (constant_in a) 0) (opposite (equals_zero w b)) (two_parts heads.Ltu w a b)) (width-equals_zero w a) (width-cond (is_number (constant_in a) 0) W8 (opposite (equals_zero w b)) (two_parts heads.Ltu w a b) (width-opposite (equals_zero w b)) refl)

width-less_extended : (again : Extension → Width → Tree → Tree → Tree) (e : Extension) (w : Width) (a b : Tree) (o : Option Operands) → LessIn8 again → width_of (less_extended o again e w a b) ≡ W8
width-less_extended again e w a b (Some x) ih = ih (less_kind e x.kind) x.width x.left x.right
width-less_extended again e w a b None ih = width-less_bounds e w a b

width-less_unless : (again : Extension → Width → Tree → Tree → Tree) (e : Extension) (w : Width) (a b : Tree) (o : Ordering) → LessIn8 again → width_of (less_unless o again e w a b) ≡ W8
width-less_unless again e w a b Equal ih = refl
width-less_unless again e w a b Less ih = width-less_extended again e w a b (operands_in w a b) ih
width-less_unless again e w a b Greater ih = width-less_extended again e w a b (operands_in w a b) ih

own-less : (e : Extension) (w : Width) → own_width (less_head e) w ≡ W8
own-less Zero w = refl
own-less Sign w = refl

width-less_test : (n : ℕ) → LessIn8 (less_test n)
unfolding less_test
width-less_test zero e w a b = width-less_parts e w a b
width-less_test (suc n) e w a b =
    width-on_constants (constant_in a) (constant_in b) (less_head e) w (less_unless (tree_cmp a b) (less_test n) e w a b) (width-less_unless (less_test n) e w a b (tree_cmp a b) (width-less_test n) ∙ sym (own-less e w)) ∙ own-less e w

-- ---- the normal form
width-built_one : (stores : List Store) (h : Head) (w : Width) (n : ℕ) (s : List ℕ) (a : Tree) → width_of (built_one stores h w n s a) ≡ own_width h w
width-built_one stores (heads.Opaque o) w n s a = width-opaque_one o w a
width-built_one stores heads.Trunc w n s a = width-cut_to w a
width-built_one stores heads.Zext w n s a = width-extended (made_at w) Zero w a (width-made_at w)
width-built_one stores heads.Sext w n s a = width-extended (made_at w) Sign w a (width-made_at w)
width-built_one stores heads.Eq w n s a = width-equals_zero w a
width-built_one stores heads.Load w n s a = refl
width-built_one stores h w n s a = refl

width-built_two : (h : Head) (w : Width) (n : ℕ) (s : List ℕ) (a b : Tree) → width_of (built_two h w n s a b) ≡ own_width h w
width-built_two (heads.Opaque o) w n s a b = width-opaque_two (opaque_taking o) o w a b
width-built_two heads.Shl w n s a b = width-left w a (low_8 b)
width-built_two heads.Shr w n s a b = width-logical w a (low_8 b)
width-built_two heads.Sar w n s a b = width-arithmetic w a (low_8 b)
width-built_two heads.Lt w n s a b = width-less_test 4 Sign w a b
width-built_two heads.Ltu w n s a b = width-less_test 4 Zero w a b
width-built_two h w n s a b = refl

width-built_parts : (stores : List Store) (h : Head) (w : Width) (n : ℕ) (s : List ℕ) (ts : List Tree) → width_of (built_parts stores h w n s ts) ≡ own_width h w
width-built_parts stores h w n s [] = refl
width-built_parts stores h w n s (a ∷ []) = width-built_one stores h w n s a
width-built_parts stores h w n s (a ∷ b ∷ []) = width-built_two h w n s a b
width-built_parts stores h w n s (a ∷ b ∷ c ∷ ts) = refl

pub width-built : (stores : List Store) (h : Head) (w : Width) (n : ℕ) (s : List ℕ) (ts : List Tree) → width_of (built stores h w n s ts) ≡ own_width h w
width-built stores heads.Mul w n s ts = width-made_at w Mul ts
width-built stores heads.And w n s ts = width-made_at w And ts
width-built stores heads.Ior w n s ts = width-made_at w Ior ts
width-built stores heads.Xor w n s ts = width-made_at w Xor ts
width-built stores h w n s ts = width-built_parts stores h w n s ts

pub width-normal : (stores : List Store) (t : Tree) → width_of (normal stores t) ≡ width_of t
width-normal stores (Sum w c xs) = width-summed w c (normal_atoms stores xs)
width-normal stores (Node h w n s ps) = width-built stores h w n s (normal_all stores ps)
