-- Shifts: a count is cut to 8 bits, and where that is a constant it is modulo the width. A left
-- shift by a constant is a product. A right shift of a sum whose constant and coefficients are
-- multiples of 2 ^ k, by k, is an extension of the quotient cut to the bits that are left.
use Rattle.std.specs.Prelude.{ℕ, zero, suc, ◌/◌, ◌%◌, ◌^◌, ◌==◌, Bool, true, if◌then◌else◌, ◌&&◌, List, [], ◌∷◌, Option, Some, None}
use Rattle.bits64.specs.declared.Width.{Width}
use Rattle.bits64.specs.declared.Width.TheVariants.{W8, W16, W32, W64}
use Rattle.bits64.specs.declared.operator.Opaque.{Opaque}
use Rattle.bits64.specs.declared.operator.Taking.{Taking}
use Rattle.bits64.specs.declared.operator.Taking.TheVariants.{Alone, Pair, Counted}
use Rattle.bits64.specs.Operators.{opaque_number}
use Rattle.bits64.specs.Words.{bits_of, shifted_left, shifted_right, shifted_arithmetic, less_signed, less_unsigned}
use Rattle.term_tree.specs.declared.head.Head.{Head}
use Rattle.term_tree.specs.declared.head.Head.TheVariants as heads
use Rattle.term_tree.specs.declared.head.Extension.{Extension}
use Rattle.term_tree.specs.declared.head.Extension.TheVariants.{Zero, Sign}
use Rattle.term_tree.specs.Tree.{Tree, Atoms, AtomTree, Sum, Node, no_atoms, atom, no_trees, tree, own_width, width_of}
use Rattle.term_tree.specs.Form.{same_width}
use Rattle.term_mean.specs.Meaning.{truth}
use Rattle.term_mean.specs.Sums.{constant, constant_in, sum, times}
use Rattle.term_mean.specs.Cuts.{one_part}
use Rattle.term_mean.specs.Extensions.{extended}
use Rattle.term_mean.specs.Masks.{made_at, cut_to, low_8}

abbrev pub two_parts : Head → Width → Tree → Tree → Tree
two_parts h w a b = Node h w 0 [] (tree a (tree b no_trees))

-- the number of an operation of two parts
abbrev pub binary_number : Head → Width → ℕ → ℕ → ℕ
binary_number (heads.Opaque o) w x y = opaque_number o w x y
binary_number heads.Shl w x y = shifted_left w x y
binary_number heads.Shr w x y = shifted_right w x y
binary_number heads.Sar w x y = shifted_arithmetic w x y
binary_number heads.Lt w x y = truth (less_signed w x y)
binary_number heads.Ltu w x y = truth (less_unsigned w x y)
binary_number _ w x y = 0

-- an operation on two constants is its number, whatever else would be made of it
abbrev pub on_constants : Option ℕ → Option ℕ → Head → Width → Tree → Tree
on_constants (Some x) (Some y) h w other = constant (own_width h w) (binary_number h w x y)
on_constants (Some x) None h w other = other
on_constants None b h w other = other

-- an operator of which nothing else is known, over one part, and over two: a count is cut to 8 bits
abbrev pub on_constant : Option ℕ → Opaque → Width → Tree → Tree
on_constant (Some x) o w a = constant w (opaque_number o w x 0)
on_constant None o w a = one_part (heads.Opaque o) w a

abbrev pub opaque_one : Opaque → Width → Tree → Tree
opaque_one o w a = on_constant (constant_in a) o w a

abbrev pub plain_two : Opaque → Width → Tree → Tree → Tree
plain_two o w a b = on_constants (constant_in a) (constant_in b) (heads.Opaque o) w (two_parts (heads.Opaque o) w a b)

abbrev pub opaque_two : Taking → Opaque → Width → Tree → Tree → Tree
opaque_two Alone o w a b = plain_two o w a b
opaque_two Pair o w a b = plain_two o w a b
opaque_two Counted o w a b = plain_two o w a (low_8 b)

-- the width that is left of w after k bits, where it is 8, 16 or 32
abbrev pub left_of : Width → ℕ → Option Width
left_of W8 k = None
left_of W16 k = if k == 8 then Some W8 else None
left_of W32 k = if k == 24 then Some W8 else (if k == 16 then Some W16 else None)
left_of W64 k = if k == 56 then Some W8 else (if k == 48 then Some W16 else (if k == 32 then Some W32 else None))

abbrev pub divides : ℕ → ℕ → Bool
divides d n = n % d == 0

abbrev pub divides_all : ℕ → Atoms → Bool
divides_all d no_atoms = true
divides_all d (atom k t xs) = divides d k && divides_all d xs

abbrev pub quotients : ℕ → Atoms → List AtomTree
quotients d no_atoms = []
quotients d (atom k t xs) = (k / d, t) ∷ quotients d xs

-- the sum divided by d, cut to m bits and extended again
abbrev pub exact : Extension → Width → Width → ℕ → ℕ → Atoms → Tree
exact e w m d c xs = extended (made_at w) e w (cut_to m (sum w (c / d) (quotients d xs)))

abbrev pub right_exact : Option Width → Head → Extension → Width → ℕ → Tree → Tree → Tree
right_exact (Some m) h e w k (Sum v c xs) b =
    if same_width v w && (divides (2 ^ k) c && divides_all (2 ^ k) xs) then exact e w m (2 ^ k) c xs else two_parts h w (Sum v c xs) b
right_exact (Some m) h e w k (Node g v n s ps) b = two_parts h w (Node g v n s ps) b
right_exact None h e w k a b = two_parts h w a b

-- a shift by a constant below the width
abbrev pub by_nonzero : Head → Width → Tree → ℕ → Tree
by_nonzero heads.Shl w a k = times w (2 ^ k) a
by_nonzero heads.Shr w a k = right_exact (left_of w k) heads.Shr Zero w k a (constant W8 k)
by_nonzero heads.Sar w a k = right_exact (left_of w k) heads.Sar Sign w k a (constant W8 k)
by_nonzero h w a k = two_parts h w a (constant W8 k)

-- by 0 it is the operand
abbrev pub by_constant : Head → Width → Tree → ℕ → Tree
by_constant h w a zero = if same_width (width_of a) w then a else two_parts h w a (constant W8 0)
by_constant h w a (suc k) = by_nonzero h w a (suc k)

-- by a constant modulo the width, or by another count as it stands
abbrev pub by_count : Option ℕ → Head → Width → Tree → Tree → Tree
by_count (Some k) h w a b = by_constant h w a (k % bits_of w)
by_count None h w a b = two_parts h w a b

-- a shift by a count of 8 bits
abbrev pub shifted_by : Head → Width → Tree → Tree → Tree
shifted_by h w a b =
    on_constants (constant_in a) (constant_in b) h w (by_count (constant_in b) h w a b)

-- a count is cut to 8 bits first, and the rules go by what that is
abbrev pub shifted : Head → Width → Tree → Tree → Tree
shifted h w a b = shifted_by h w a (low_8 b)
