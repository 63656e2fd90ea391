-- Conditions and statements as trees, and their heads in a row.
use Rattle.std.specs.Prelude.{◌≡◌, ℕ, List, [], ◌∷◌, ◌++◌, take, drop, reverse}
use Rattle.std.specs.List.{flat_map}
use Rattle.c_words.specs.declared.head.CondHead.{CondHead}
use Rattle.c_words.specs.declared.head.CondHead.TheVariants as head
use Rattle.c_words.specs.declared.head.Binary.TheVariants as binary
use Rattle.c_words.specs.declared.head.Call.{Call}
use Rattle.c_words.specs.declared.head.Call.TheVariants as call
use Rattle.c_cond.specs.declared.tree.Tree.{Tree, roll-Tree}
use Rattle.c_cond.specs.declared.tree.Tree.TheOpen.{Tree-F}
use Rattle.c_cond.specs.declared.tree.Tree.TheFolds.{fold-Tree}

-- a head with its parts
abbrev pub node : CondHead → List Tree → Tree
node h parts = roll-Tree (record { head = h; parts = parts })

-- a head without parts
abbrev pub leaf : CondHead → Tree
leaf h = node h []

abbrev pub heads_step : Tree-F (List CondHead) → List CondHead
heads_step x = flat_map (λ heads. heads) x.parts ++ x.head ∷ []

-- the heads of a tree, each behind its parts
abbrev pub heads_of : Tree → List CondHead
heads_of = fold-Tree (List CondHead) heads_step

-- how many parts a call has
abbrev call_size : Call → ℕ
call_size call.CanCreatePseudo = 0
call_size call.RtxEqual = 2
call_size call.InRange = 3
call_size call.RegDead = 2
call_size call.GenIntMode = 2
call_size call.ForceReg = 2
call_size call.GenLowpart = 2
call_size call.EmitMove = 2
call_size _ = 1

-- how many parts a head has
abbrev pub size_of : CondHead → ℕ
size_of (head.CodeIs c equal) = 1
size_of (head.ModeIs m equal) = 1
size_of (head.Unary u) = 1
size_of (head.Binary op) = 2
size_of head.Choose = 3
size_of (head.Call c) = call_size c
size_of (head.Predicate name) = 2
size_of (head.Assign k) = 1
size_of head.If = 2
size_of head.IfElse = 3
size_of head.Then = 2
size_of _ = 0

-- The trees that heads are, each behind its parts, the last tree first, where these trees stood
-- before.
abbrev pub grown : List Tree → List CondHead → List Tree
grown trees [] = trees
grown trees (h ∷ hs) = grown (node h (reverse (take (size_of h) trees)) ∷ drop (size_of h) trees) hs

abbrev pub first_or_nothing : List Tree → Tree
first_or_nothing [] = leaf head.Nothing
first_or_nothing (t ∷ ts) = t

-- the tree whose heads these are
abbrev pub tree_of : List CondHead → Tree
tree_of heads = first_or_nothing (grown [] heads)

-- Heads are those of one whole tree: it has them, and it grows from them whatever stands before and
-- behind.
pub record IsWhole (heads : List CondHead) : Type 0 where
  pub heads_are : heads_of (tree_of heads) ≡ heads
  pub grows : (before : List Tree) (more : List CondHead) →
      grown before (heads ++ more) ≡ grown (tree_of heads ∷ before) more

-- both conditions hold: C's &&
abbrev pub both : Tree → Tree → Tree
both a b = node (head.Binary binary.And) (a ∷ b ∷ [])
