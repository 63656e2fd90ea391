-- Products, and, or and exclusive or: flattened and sorted, with one constant.
use Rattle.std.specs.Prelude.{ℕ, ◌-◌, ◌*◌, ◌^◌, ◌==◌, Bool, false, if◌then◌else◌, ◌&&◌, List, [], ◌∷◌, Option, Some, None, bit_and, bit_or, bit_xor}
use Rattle.std.specs.declared.cmp.Ordering.{Ordering}
use Rattle.std.specs.declared.cmp.Ordering.TheVariants.{Less, Equal, Greater}
use Rattle.bits64.specs.declared.Width.{Width}
use Rattle.bits64.specs.declared.Width.TheVariants.{W64}
use Rattle.bits64.specs.Words.{bits_of, low, product_of}
use Rattle.term_tree.specs.declared.head.Head.{Head}
use Rattle.term_tree.specs.declared.head.Head.TheVariants as heads
use Rattle.term_tree.specs.declared.head.Joint.{Joint}
use Rattle.term_tree.specs.declared.head.Joint.TheVariants.{Mul, And, Ior, Xor}
use Rattle.term_tree.specs.Tree.{Tree, Sum, Node, no_atoms, atom, width_of, list_of, trees_of}
use Rattle.term_tree.specs.Form.{same_width}
use Rattle.term_tree.specs.Order.{tree_cmp, head_index}
use Rattle.term_mean.specs.Sums.{constant, constant_in, times}

abbrev pub head_of : Joint → Head
head_of Mul = heads.Mul
head_of And = heads.And
head_of Ior = heads.Ior
head_of Xor = heads.Xor

abbrev pub join : Joint → ℕ → ℕ → ℕ
join Mul a b = a * b
join And a b = bit_and a b
join Ior a b = bit_or a b
join Xor a b = bit_xor a b

-- what changes nothing, in 64 bits
abbrev pub start : Joint → ℕ
start Mul = 1
start And = 2 ^ 64 - 1
start Ior = 0
start Xor = 0

-- the constant that is the result whatever the other parts are
abbrev pub absorbs : Joint → Width → ℕ → Bool
absorbs Mul w c = c == 0
absorbs And w c = c == 0
absorbs Ior w c = c == 2 ^ bits_of w - 1
absorbs Xor w c = false

-- the parts, where the same part u as t stands already: a product has it twice, an exclusive or has
-- neither
abbrev pub met : Joint → Tree → Tree → List Tree → List Tree
met Mul t u ts = t ∷ u ∷ ts
met And t u ts = u ∷ ts
met Ior t u ts = u ∷ ts
met Xor t u ts = ts

abbrev pub put : Joint → Ordering → Tree → Tree → List Tree → List Tree → List Tree
put o Less t u ts later = t ∷ u ∷ ts
put o Equal t u ts later = met o t u ts
put o Greater t u ts later = u ∷ later

-- one more part, in order
abbrev pub with_part : Joint → Tree → List Tree → List Tree
with_part o t [] = t ∷ []
with_part o t (u ∷ ts) = put o (tree_cmp t u) t u ts (with_part o t ts)

-- of constants: a product is cut to 64 bits
abbrev pub join_constants : Joint → ℕ → ℕ → ℕ
join_constants Mul a b = product_of W64 a b
join_constants And a b = bit_and a b
join_constants Ior a b = bit_or a b
join_constants Xor a b = bit_xor a b

-- the constant so far, and the other parts
pub record Joined : Type 0 where
  pub constant : ℕ
  pub parts : List Tree

abbrev pub taken : Option ℕ → Joint → Tree → Joined → Joined
taken (Some c) o t j = record { constant = join_constants o c j.constant; parts = j.parts }
taken None o t j = record { constant = j.constant; parts = with_part o t j.parts }

abbrev pub take_part : Joint → Tree → Joined → Joined
take_part o t j = taken (constant_in t) o t j

abbrev pub take_parts : Joint → List Tree → Joined → Joined
take_parts o [] j = j
take_parts o (t ∷ ts) j = take_parts o ts (take_part o t j)

-- the parts of a part with the same operator, and else the part
abbrev pub flat_node : Joint → Width → Tree → List Tree
flat_node o w (Sum v c xs) = Sum v c xs ∷ []
flat_node o w (Node h v n s ps) =
    if (head_index h == head_index (head_of o)) && same_width v w then list_of ps else Node h v n s ps ∷ []

-- in a product a part that is one atom with a coefficient gives the coefficient to the front
abbrev pub flat_factor : Width → Tree → List Tree
flat_factor w (Sum v c (atom k t no_atoms)) =
    if same_width v w && c == 0 then constant w k ∷ flat_node Mul w t else Sum v c (atom k t no_atoms) ∷ []
flat_factor w t = flat_node Mul w t

abbrev pub flat : Joint → Width → Tree → List Tree
flat Mul w t = flat_factor w t
flat And w t = flat_node And w t
flat Ior w t = flat_node Ior w t
flat Xor w t = flat_node Xor w t

abbrev pub take_all : Joint → Width → List Tree → Joined → Joined
take_all o w [] j = j
take_all o w (t ∷ ts) j = take_all o w ts (take_parts o (flat o w t) j)

-- all parts, flattened and sorted
abbrev pub gathered : Joint → Width → List Tree → Joined
gathered o w ts = take_all o w ts (record { constant = start o; parts = [] })

abbrev pub node_of : Joint → Width → List Tree → Tree
node_of o w ts = Node (head_of o) w 0 [] (trees_of ts)

-- parts with no constant
abbrev pub plain : Joint → Width → List Tree → Tree
plain o w [] = constant w (start o)
plain o w (t ∷ []) = if same_width (width_of t) w then t else node_of o w (t ∷ [])
plain o w (t ∷ u ∷ ts) = node_of o w (t ∷ u ∷ ts)

-- a constant factor makes a sum, and another constant is a part
abbrev pub with_constant : Joint → Width → ℕ → List Tree → Tree
with_constant o w c [] = constant w c
with_constant Mul w c (t ∷ ts) = times w c (plain Mul w (t ∷ ts))
with_constant o w c (t ∷ ts) = node_of o w (with_part o (constant w c) (t ∷ ts))

-- an absorbing constant is the result, and a neutral one is dropped
abbrev pub finished : Joint → Width → ℕ → List Tree → Tree
finished o w c ts =
    if absorbs o w c then constant w c else (if c == low w (start o) then plain o w ts else with_constant o w c ts)

abbrev pub joined : Joint → Width → List Tree → Tree
joined o w ts = let j = gathered o w ts in finished o w (low w j.constant) j.parts
