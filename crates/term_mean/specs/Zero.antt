-- Whether a term is 0.
use Rattle.std.specs.Prelude.{ℕ, zero, suc, ◌-◌, ◌^◌, ◌==◌, Bool, true, false, if◌then◌else◌, ◌&&◌, List, [], ◌∷◌, Option, Some, None}
use Rattle.std.specs.Option.{option_or}
use Rattle.std.specs.declared.cmp.Ordering.{Ordering}
use Rattle.std.specs.declared.cmp.Ordering.TheVariants.{Less, Equal, Greater}
use Rattle.bits64.specs.declared.Width.{Width}
use Rattle.bits64.specs.declared.Width.TheVariants.{W8}
use Rattle.bits64.specs.Words.{bits_of, low, difference_of}
use Rattle.term_tree.specs.declared.head.Head.TheVariants as heads
use Rattle.term_tree.specs.declared.head.Extension.{Extension}
use Rattle.term_tree.specs.declared.head.Extension.TheVariants.{Zero, Sign}
use Rattle.term_tree.specs.Tree.{Tree, Atoms, Sum, Node, no_atoms, atom, no_trees, tree, width_of, tree_size}
use Rattle.term_tree.specs.Form.{same_width, narrower}
use Rattle.term_tree.specs.Order.{numbers_cmp}
use Rattle.term_mean.specs.Meaning.{truth}
use Rattle.term_mean.specs.Sums.{constant, constant_in, minus, negated}
use Rattle.term_mean.specs.Cuts.{one_part}
use Rattle.term_mean.specs.Extensions.{extended_by}
use Rattle.term_mean.specs.Masks.{low_8}
use Rattle.term_mean.specs.Truths.{is_truth, opposite}

-- ---- of s and -s the one whose coefficients, then constant, come first

abbrev pub coefficients : Atoms → List ℕ → List ℕ
coefficients no_atoms more = more
coefficients (atom k t xs) more = k ∷ coefficients xs more

-- any other term is one atom
abbrev pub numbers_of : Width → Tree → List ℕ
numbers_of w (Sum v c xs) = if same_width v w then coefficients xs (c ∷ []) else 1 ∷ 0 ∷ []
numbers_of w (Node h v n s ps) = 1 ∷ 0 ∷ []

abbrev pub first_of : Ordering → Tree → Tree → Tree
first_of Greater t u = u
first_of Equal t u = t
first_of Less t u = t

abbrev pub nearer : Width → Tree → Tree
nearer w t = first_of (numbers_cmp (numbers_of w t) (numbers_of w (negated w t))) t (negated w t)

-- ---- two extensions of one kind from one width; a constant counts as the extension of its low bits, where it is that

-- what a term extends
pub record Extended : Type 0 where
  pub kind : Extension
  pub width : Width

-- two terms of the width from which both are extended
pub record Operands : Type 0 where
  pub kind : Extension
  pub width : Width
  pub left : Tree
  pub right : Tree

-- an extension to w bits of a narrower term
abbrev pub extension_of : Extension → Width → Width → Tree → Option Extended
extension_of e w v t =
    if same_width v w &&
    narrower (width_of t) w then Some (record { kind = e; width = width_of t }) else None

abbrev pub extension_in : Width → Tree → Option Extended
extension_in w (Node heads.Zext v n s (tree t no_trees)) = extension_of Zero w v t
extension_in w (Node heads.Sext v n s (tree t no_trees)) = extension_of Sign w v t
extension_in w _ = None

abbrev pub same_kind : Extension → Extension → Bool
same_kind Zero Zero = true
same_kind Zero Sign = false
same_kind Sign Zero = false
same_kind Sign Sign = true

-- the operand, where the term is an extension of the kind from the width
abbrev pub operand_if : Extended → Extension → Width → Width → Tree → Option Tree
operand_if x e w v t =
    if same_kind x.kind e &&
    (same_width v w && same_width (width_of t) x.width) then Some t else None

abbrev pub constant_if : Extended → Width → ℕ → Option Tree
constant_if x w c =
    if low w (extended_by x.kind x.width c) == c then Some (constant x.width c) else None

abbrev pub operand_in : Extended → Width → Tree → Option Tree
operand_in x w (Node heads.Zext v n s (tree t no_trees)) = operand_if x Zero w v t
operand_in x w (Node heads.Sext v n s (tree t no_trees)) = operand_if x Sign w v t
operand_in x w (Sum v c no_atoms) = constant_if x w (low v c)
operand_in x w _ = None

abbrev pub operands_of : Extended → Option Tree → Option Tree → Option Operands
operands_of x (Some a) (Some b) =
    Some (record { kind = x.kind; width = x.width; left = a; right = b })
operands_of x (Some a) None = None
operands_of x None b = None

abbrev pub operands_as : Option Extended → Width → Tree → Tree → Option Operands
operands_as (Some x) w a b = operands_of x (operand_in x w a) (operand_in x w b)
operands_as None w a b = None

abbrev pub operands_in : Width → Tree → Tree → Option Operands
operands_in w a b = operands_as (option_or (extension_in w a) (extension_in w b)) w a b

-- ---- a term as a difference

-- a term as the difference of itself and 0
abbrev pub from_zero : Width → Tree → Tree × Tree
from_zero w t = (t, constant w 0)

-- an atom and a constant, two atoms of which the second is taken away, or else the term itself
abbrev pub as_difference : Width → Tree → Tree × Tree
as_difference w (Sum v c (atom k t no_atoms)) =
    if same_width v w && k == 1 then (t, constant w (difference_of w 0 c)) else from_zero w (Sum v c (atom k t no_atoms))
as_difference w (Sum v c (atom k t (atom j u no_atoms))) =
    if same_width v w && (c == 0 && (k == 1 && j == 2 ^ bits_of w - 1)) then (t, u) else from_zero w (Sum v c (atom k t (atom j u no_atoms)))
as_difference w t = from_zero w t

-- ---- the test

-- the test of a difference of two extensions is that of what they extend
abbrev pub zero_extended_test : Option Operands → (Width → Tree → Tree) → Width → Tree → Tree
zero_extended_test (Some x) again w t = again x.width (minus x.width x.left x.right)
zero_extended_test None again w t = one_part heads.Eq w t

abbrev pub zero_difference : (Width → Tree → Tree) → Width → Tree → Tree
zero_difference again w t =
    zero_extended_test (let d = as_difference w t in operands_in w d.0 d.1) again w t

-- of an exclusive or of two parts it is that of their difference
abbrev pub zero_xor : (Width → Tree → Tree) → Width → Tree → Tree
zero_xor again w (Node heads.Xor u n s (tree a (tree b no_trees))) =
    if same_width u w then again w (minus w a b) else zero_difference again w (Node heads.Xor u n s (tree a (tree b no_trees)))
zero_xor again w t = zero_difference again w t

-- of a truth it is the opposite
abbrev pub zero_truth : (Width → Tree → Tree) → Width → Tree → Tree
zero_truth again w t = if is_truth t then opposite (low_8 t) else zero_xor again w t

-- of a constant it is its number
abbrev pub zero_constant : Option ℕ → (Width → Tree → Tree) → Width → Tree → Tree
zero_constant (Some c) again w t = constant W8 (truth (low w c == 0))
zero_constant None again w t = zero_truth again w t

abbrev pub zero_chosen : (Width → Tree → Tree) → Width → Tree → Tree
zero_chosen again w t = zero_constant (constant_in t) again w t

-- what the rules make of it is made by the same rules, in so many rounds
unfoldable pub zero_test : ℕ → Width → Tree → Tree
zero_test zero w t = one_part heads.Eq w t
zero_test (suc n) w t = zero_chosen (zero_test n) w (nearer w t)

-- whether a term of w bits is 0: each round that goes on takes an operator away, so no more rounds
-- are needed than the term has nodes
abbrev pub equals_zero : Width → Tree → Tree
equals_zero w t = zero_test (tree_size t) w t
