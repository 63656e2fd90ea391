-- The text of a term on one line.
use Rattle.std.specs.Prelude.{ℕ, ◌==◌, Bool, false, ◌&&◌, if◌then◌else◌, List, [], ◌++◌, codes}
use Rattle.std.specs.Fmt.{decimal, signed_decimal}
use Rattle.rtx_tree.specs.Registers.{register_text}
use Rattle.bits64.specs.declared.Width.{Width}
use Rattle.bits64.specs.Words.{bits_of, signed}
use Rattle.bits64.specs.Operators.{opaque_name}
use Rattle.term_tree.specs.declared.head.Head.{Head}
use Rattle.term_tree.specs.declared.head.Head.TheVariants.{Reg, Sym, Mul, Opaque, And, Ior, Xor, Shl, Shr, Sar, Trunc, Zext, Sext, Lt, Ltu, Eq, Load}
use Rattle.term_tree.specs.declared.head.Head.TheVariants as heads
use Rattle.term_tree.specs.Tree.{Tree, Atoms, Trees, Sum, Node, no_atoms, atom, no_trees, tree}

abbrev pub head_name : Head → List ℕ
head_name Reg = codes "reg"
head_name Sym = codes "sym"
head_name heads.Sum = codes "sum"
head_name Mul = codes "mul"
head_name (Opaque o) = opaque_name o
head_name And = codes "and"
head_name Ior = codes "ior"
head_name Xor = codes "xor"
head_name Shl = codes "shl"
head_name Shr = codes "shr"
head_name Sar = codes "sar"
head_name Trunc = codes "trunc"
head_name Zext = codes "zext"
head_name Sext = codes "sext"
head_name Lt = codes "lt"
head_name Ltu = codes "ltu"
head_name Eq = codes "eq"
head_name Load = codes "load"

-- a number of a width is shown signed
abbrev pub number_text : Width → ℕ → List ℕ
number_text w n = signed_decimal (signed w n)

-- an opening parenthesis, a head and its width
abbrev pub opened : Head → Width → List ℕ
opened h w = codes "(" ++ (head_name h ++ decimal (bits_of w))

-- the name of a symbol, and the number of a load's memory
abbrev pub own_text : Head → ℕ → List ℕ → List ℕ
own_text Sym n s = codes " " ++ s
own_text Load n s = codes " " ++ decimal n
own_text _ n s = []

-- an atom alone, with coefficient 1 and no constant
abbrev pub is_alone : ℕ → Atoms → Bool
is_alone c no_atoms = false
is_alone c (atom k t no_atoms) = c == 0 && k == 1
is_alone c (atom k t (atom j u xs)) = false

abbrev mutual
  -- an atom alone is shown bare
  pub text_of : Tree → List ℕ
  text_of (Sum w c xs) =
      if is_alone c xs then first_text xs else opened heads.Sum w ++ (codes " " ++ (number_text w c ++ (atoms_text w xs ++ codes ")")))
  text_of (Node Reg w n s ps) = register_text n
  text_of (Node h w n s ps) = opened h w ++ (own_text h n s ++ (parts_text ps ++ codes ")"))

  pub first_text : Atoms → List ℕ
  first_text no_atoms = []
  first_text (atom k t xs) = text_of t

  -- a space, and a coefficient with its term in parentheses
  pub atoms_text : Width → Atoms → List ℕ
  atoms_text w no_atoms = []
  atoms_text w (atom k t xs) = codes " (" ++ (number_text w k ++ (codes " " ++ (text_of t ++ (codes ")" ++ atoms_text w xs))))

  pub parts_text : Trees → List ℕ
  parts_text no_trees = []
  parts_text (tree t ts) = codes " " ++ (text_of t ++ parts_text ts)
