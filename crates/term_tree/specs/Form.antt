-- Which terms are well-formed: the numbers fit their widths, and each head has parts of the number
-- and the widths that it takes.
use Rattle.std.specs.Prelude.{ℕ, ◌^◌, ◌==◌, nat_lt, Bool, true, false, ◌&&◌, List, [], ◌∷◌}
use Rattle.bits64.specs.declared.Width.{Width}
use Rattle.bits64.specs.declared.Width.TheVariants.{W64}
use Rattle.bits64.specs.Words.{bits_of}
use Rattle.bits64.specs.declared.operator.Taking.{Taking}
use Rattle.bits64.specs.declared.operator.Taking.TheVariants.{Alone, Pair, Counted}
use Rattle.bits64.specs.Operators.{opaque_taking}
use Rattle.term_tree.specs.declared.head.Head.{Head}
use Rattle.term_tree.specs.declared.head.Head.TheVariants.{Reg, Sym, Mul, Opaque, And, Ior, Xor, Shl, Shr, Sar, Trunc, Zext, Sext, Lt, Ltu, Eq, Load}
use Rattle.term_tree.specs.declared.head.Head.TheVariants as heads
use Rattle.term_tree.specs.Tree.{Tree, Atoms, Trees, Sum, Node, no_atoms, atom, no_trees, tree, width_of}

abbrev pub same_width : Width → Width → Bool
same_width v w = bits_of v == bits_of w

abbrev pub narrower : Width → Width → Bool
narrower v w = nat_lt (bits_of v) (bits_of w)

abbrev pub fits : Width → ℕ → Bool
fits w n = nat_lt n (2 ^ bits_of w)

-- each part has the width
abbrev pub all_of_width : Width → Trees → Bool
all_of_width w no_trees = true
all_of_width w (tree t ts) = same_width (width_of t) w && all_of_width w ts

-- two parts or more, each of the width
abbrev pub several : Width → Trees → Bool
several w (tree t (tree u ts)) = all_of_width w (tree t (tree u ts))
several w _ = false

abbrev pub two : Width → Trees → Bool
two w (tree t (tree u no_trees)) = all_of_width w (tree t (tree u no_trees))
two w _ = false

abbrev pub one : Width → Trees → Bool
one w (tree t no_trees) = same_width (width_of t) w
one w _ = false

-- a part of the width, and a count of any
abbrev pub counted : Width → Trees → Bool
counted w (tree t (tree u no_trees)) = same_width (width_of t) w
counted w _ = false

abbrev pub one_wider : Width → Trees → Bool
one_wider w (tree t no_trees) = narrower w (width_of t)
one_wider w _ = false

abbrev pub one_narrower : Width → Trees → Bool
one_narrower w (tree t no_trees) = narrower (width_of t) w
one_narrower w _ = false

abbrev pub none_of_64 : Width → Trees → Bool
none_of_64 w no_trees = same_width w W64
none_of_64 w _ = false

-- the parts of an operator of which nothing else is known
abbrev pub opaque_takes : Taking → Width → Trees → Bool
opaque_takes Alone w ps = one w ps
opaque_takes Pair w ps = two w ps
opaque_takes Counted w ps = counted w ps

-- the parts that a head takes in a width: a register and a symbol have 64 bits and none
abbrev pub takes : Head → Width → Trees → Bool
takes Reg w ps = none_of_64 w ps
takes Sym w ps = none_of_64 w ps
takes heads.Sum w ps = false
takes Mul w ps = several w ps
takes And w ps = several w ps
takes Ior w ps = several w ps
takes Xor w ps = several w ps
takes (Opaque o) w ps = opaque_takes (opaque_taking o) w ps
takes Shl w ps = counted w ps
takes Shr w ps = counted w ps
takes Sar w ps = counted w ps
takes Trunc w ps = one_wider w ps
takes Zext w ps = one_narrower w ps
takes Sext w ps = one_narrower w ps
takes Lt w ps = two w ps
takes Ltu w ps = two w ps
takes Eq w ps = one w ps
takes Load w ps = one W64 ps

-- a register and a load alone have a number, a symbol alone has a name
abbrev pub has_number : Head → ℕ → Bool
has_number Reg n = true
has_number Load n = true
has_number _ n = n == 0

abbrev pub no_name : List ℕ → Bool
no_name [] = true
no_name (c ∷ s) = false

abbrev pub has_name : Head → List ℕ → Bool
has_name Sym s = true
has_name _ s = no_name s

abbrev mutual
  pub well_formed : Tree → Bool
  well_formed (Sum w c xs) = fits w c && well_formed_atoms w xs
  well_formed (Node h w n s ps) =
      has_number h n && has_name h s && takes h w ps && well_formed_parts ps

  pub well_formed_atoms : Width → Atoms → Bool
  well_formed_atoms w no_atoms = true
  well_formed_atoms w (atom k t xs) =
      fits w k && same_width (width_of t) w && well_formed t && well_formed_atoms w xs

  pub well_formed_parts : Trees → Bool
  well_formed_parts no_trees = true
  well_formed_parts (tree t ts) = well_formed t && well_formed_parts ts
