-- Trees whose parts have as many kids as the rows of their codes say.
use Rattle.std.proofs.Common.{ℕ, zero, suc, List, [], ◌∷◌, length, sym, subst}
use Rattle.std.specs.Prelude.{IfSome, option_and_then, slice_get}
use Rattle.std.specs.List.{AllByRecursion}
use Rattle.rtx_tree.specs.declared.tree.Rtx.{Rtx, out-roll-Rtx}
use Rattle.rtx_tree.specs.declared.tree.Rtx.TheOpen.{Rtx-F}
use Rattle.rtx_tree.specs.Code.{class_of_code, parts_of, HasKids}
use Rattle.rtx_tree.specs.Tree.{RtxHead, HasItsParts, kids_of, tree_of, part_at}

-- the part at a path, if it exists, has its parts
abbrev pub HasPartsAt : List ℕ → Rtx → Type 0
HasPartsAt path x = IfSome (part_at x path) HasItsParts

-- the tree has its parts, and its kids keep something
abbrev pub Over : (Rtx → Type 0) → Rtx → Type 0
Over Q x = HasItsParts x × AllByRecursion Q (kids_of x)

pub tree_over : (Q : Rtx → Type 0) (h : RtxHead) (kids : List Rtx) → HasKids (parts_of (class_of_code h.code)) (length kids) → AllByRecursion Q kids → Over Q (tree_of h kids)
tree_over Q h kids has all =
    subst (λ (o : Rtx-F Rtx). HasKids (parts_of (class_of_code o.code)) (length o.kids) × AllByRecursion Q o.kids)
    (sym (out-roll-Rtx (record { code = h.code; mode = h.mode; number = h.number; name = h.name; kids = kids }))) (has, all)

kid_at : (path : List ℕ) (kids : List Rtx) (k : ℕ) → AllByRecursion (HasPartsAt path) kids → IfSome (option_and_then (λ kid. part_at kid path) (slice_get kids k)) HasItsParts
kid_at path [] zero all = tt
kid_at path [] (suc k) all = tt
kid_at path (x ∷ kids) zero all = all.0
kid_at path (x ∷ kids) (suc k) all = kid_at path kids k all.1

-- one step further down
pub parts_behind : (path : List ℕ) (k : ℕ) (x : Rtx) → AllByRecursion (HasPartsAt path) (kids_of x) → HasPartsAt (k ∷ path) x
parts_behind path k x all = kid_at path (kids_of x) k all
