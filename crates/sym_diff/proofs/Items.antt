-- In which item a difference is.
use Rattle.std.proofs.Common.{◌≡◌, Bool, true, false, cond, Option, Some, None}
use Rattle.term_tree.specs.Tree.{Tree}
use Rattle.term_text.specs.declared.item.Item.{Item}
use Rattle.sym_diff.specs.Difference.{Difference, Differ, or_else}
use Rattle.sym_diff.specs.Registers.{same_tree}
use Rattle.sym_diff.specs.Compared.{compared_terms}

-- a difference in an item
pub record IsOf (i : Item) (d : Difference) : Type 0 where
  pub left : Tree
  pub right : Tree
  pub is : d ≡ Differ i left right

-- what is found is in an item
abbrev pub InItem : Item → Option Difference → Type 0
InItem i x = (d : Difference) → x ≡ Some d → IsOf i d

pub some_item : (i : Item) (l r : Tree) → InItem i (Some (Differ i l r))
some_item i l r = λ d h. record { left = l; right = r; is = other d h }
  where
    other : (d : Difference) → Some (Differ i l r) ≡ Some d → d ≡ Differ i l r
    other d h = cc

pub none_item : (i : Item) → InItem i None
none_item i = λ d h. absurd (never d h)
  where
    never : (d : Difference) → None ≡ Some d → ⊥
    never d h = cc

pub or_item : (i : Item) (x y : Option Difference) → InItem i x → InItem i y → InItem i (or_else x y)
or_item i None y hx hy = hy
or_item i (Some d) y hx hy = hx

pub terms_item : (i : Item) (t u : Tree) → InItem i (compared_terms i t u)
terms_item i t u = go (same_tree t u)
  where
    go : (s : Bool) → InItem i (cond s None (Some (Differ i t u)))
    go true = none_item i
    go false = some_item i t u

-- what is found is not nothing
pub contrary : (x : Option Difference) (d : Difference) → x ≡ Some d → x ≡ None → ⊥
contrary x d some none = cc
