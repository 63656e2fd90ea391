-- Trees that are rewritten as a whole: GCC Internals, "RTL Objects" (an expression is made of
-- expressions).
use Rattle.std.specs.Prelude.{List, map}
use Rattle.rtx_tree.specs.declared.tree.Rtx.{Rtx}
use Rattle.rtx_tree.specs.declared.tree.Rtx.TheOpen.{Rtx-F}
use Rattle.rtx_tree.specs.declared.tree.Rtx.TheFolds.{fold-Rtx}
use Rattle.rtx_tree.specs.Tree.{RtxHead, tree_of}

-- a tree, and what it becomes
pub record Changed : Type 0 where
  pub was : Rtx
  pub is : Rtx

-- what a tree becomes by a rule, which sees the tree and what its parts have become
abbrev pub Rule : Type 0
Rule = Rtx → List Rtx → Rtx

abbrev head_at : Rtx-F Changed → RtxHead
head_at x = record { code = x.code; mode = x.mode; number = x.number; name = x.name }

abbrev pub changed_tree : Rule → Rtx → List Rtx → Changed
changed_tree rule x parts = record { was = x; is = rule x parts }

abbrev pub changed_step : Rule → Rtx-F Changed → Changed
changed_step rule x = changed_tree rule (tree_of (head_at x) (map (λ (part : Changed). part.was) x.kids)) (map (λ (part : Changed). part.is) x.kids)

-- a tree rewritten by a rule, its parts before it
unfoldable pub rewritten : Rule → Rtx → Rtx
rewritten rule x = (fold-Rtx Changed (changed_step rule) x).is
