-- Sums: the constants are added, equal atoms are joined, coefficients are modulo 2 ^ w and zero
-- ones dropped, and atoms stand in order.
use Rattle.std.specs.Prelude.{ℕ, zero, suc, ◌+◌, ◌-◌, ◌*◌, ◌^◌, if◌then◌else◌, List, [], ◌∷◌, ◌++◌, Option, Some, None}
use Rattle.std.specs.declared.cmp.Ordering.{Ordering}
use Rattle.std.specs.declared.cmp.Ordering.TheVariants.{Less, Equal, Greater}
use Rattle.bits64.specs.declared.Width.{Width}
use Rattle.bits64.specs.Words.{bits_of, low, sum_of, product_of}
use Rattle.term_tree.specs.Tree.{Tree, Sum, Node, no_atoms, atom, width_of, AtomTree, atoms_of, list_of_atoms}
use Rattle.term_tree.specs.Form.{same_width}
use Rattle.term_tree.specs.Order.{tree_cmp}

-- the number of a constant, which is a sum with no atom
abbrev pub constant_in : Tree → Option ℕ
constant_in (Sum v c no_atoms) = Some (low v c)
constant_in _ = None

abbrev pub constant : Width → ℕ → Tree
constant w c = Sum w (low w c) no_atoms

-- an atom in front, unless its coefficient is 0
abbrev pub with_atom : ℕ → Tree → List AtomTree → List AtomTree
with_atom zero t xs = xs
with_atom (suc k) t xs = (suc k, t) ∷ xs

-- k times t before, at or after an atom x, where `later` has it among the atoms after that
abbrev pub placed : Ordering → Width → ℕ → Tree → AtomTree → List AtomTree → List AtomTree →
    List AtomTree
placed Less w k t x xs later = with_atom (low w k) t (x ∷ xs)
placed Equal w k t x xs later = with_atom (low w (k + x.0)) x.1 xs
placed Greater w k t x xs later = x ∷ later

-- k times t more
abbrev pub insert : Width → ℕ → Tree → List AtomTree → List AtomTree
insert w k t [] = with_atom (low w k) t []
insert w k t (x ∷ xs) = placed (tree_cmp t x.1) w k t x xs (insert w k t xs)

-- atoms put in order, one after another
abbrev pub in_order : Width → List AtomTree → List AtomTree → List AtomTree
in_order w [] ys = ys
in_order w (x ∷ xs) ys = in_order w xs (insert w x.0 x.1 ys)

-- f times these atoms
abbrev pub scaled : Width → ℕ → List AtomTree → List AtomTree
scaled w f [] = []
scaled w f (x ∷ xs) = (low w (f * x.0), x.1) ∷ scaled w f xs

-- a term as a constant and atoms: a sum of the width is these, and any other term is one atom
abbrev pub constant_at : Width → Tree → ℕ
constant_at w (Sum v c xs) = if same_width v w then c else 0
constant_at w (Node h v n s ps) = 0

abbrev pub atoms_at : Width → Tree → List AtomTree
atoms_at w (Sum v c xs) = if same_width v w then list_of_atoms xs else (1, Sum v c xs) ∷ []
atoms_at w (Node h v n s ps) = (1, Node h v n s ps) ∷ []

-- a sum, or the atom that it is alone
abbrev pub sum : Width → ℕ → List AtomTree → Tree
sum w zero ((suc zero, t) ∷ []) =
    if same_width (width_of t) w then t else Sum w 0 (atom 1 t no_atoms)
sum w c xs = Sum w c (atoms_of xs)

-- a + f * b
abbrev pub plus_times : Width → Tree → ℕ → Tree → Tree
plus_times w a f b =
    sum w (sum_of w (constant_at w a) (product_of w f (constant_at w b)))
    (in_order w (atoms_at w a ++ scaled w f (atoms_at w b)) [])

-- a constant, and that of each of these terms, as often as its coefficient says
abbrev pub constants_at : Width → ℕ → List AtomTree → ℕ
constants_at w c [] = c
constants_at w c (x ∷ xs) = constants_at w (sum_of w c (product_of w x.0 (constant_at w x.1))) xs

-- the atoms of all these terms, as often as their coefficients say
abbrev pub all_atoms : Width → List AtomTree → List AtomTree
all_atoms w [] = []
all_atoms w (x ∷ xs) = scaled w x.0 (atoms_at w x.1) ++ all_atoms w xs

-- the sum of a constant and terms with coefficients
abbrev pub summed : Width → ℕ → List AtomTree → Tree
summed w c xs = sum w (constants_at w (low w c) xs) (in_order w (all_atoms w xs) [])

-- f * a: a product with a constant, or a shift to the left by a constant
abbrev pub times : Width → ℕ → Tree → Tree
times w f a = plus_times w (constant w 0) f a

abbrev pub minus : Width → Tree → Tree → Tree
minus w a b = plus_times w a (2 ^ bits_of w - 1) b

abbrev pub negated : Width → Tree → Tree
negated w a = times w (2 ^ bits_of w - 1) a
