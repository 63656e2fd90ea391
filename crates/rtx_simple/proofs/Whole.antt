-- What is simplified is simple.
use Rattle.std.proofs.Common.{◌≡◌, List, [], ◌∷◌, map, sym, subst}
use Rattle.std.specs.List.{AllByRecursion}
use Rattle.rtx_tree.specs.declared.tree.Rtx.{Rtx, roll-Rtx, out-roll-Rtx}
use Rattle.rtx_tree.specs.declared.tree.Rtx.TheFolds.{ind-Rtx}
use Rattle.rtx_tree.specs.declared.tree.Rtx.TheOpen.{Rtx-F}
use Rattle.rtx_tree.specs.Tree.{head_of, kids_of, tree_of}
use Rattle.rtx_tree.proofs.Trees.{kids_of-tree}
use Rattle.rtx_simple.specs.Simple.{simplified, settled, IsSimple}
use Rattle.rtx_simple.proofs.Front.{simplified_out}
use Rattle.rtx_simple.proofs.Parts.{AreSimple}
use Rattle.rtx_simple.proofs.Settled.{settled_simple}

all_of : (P : Rtx → Type 0) (ys : List ((x : Rtx) × P x)) → AllByRecursion P (map (λ (y : (x : Rtx) × P x). y.0) ys)
all_of P [] = tt
all_of P (y ∷ ys) = (y.1, all_of P ys)

-- what holds of each tree whose parts it holds of
tree_induction : (P : Rtx → Type 0) → ((x : Rtx) → AllByRecursion P (kids_of x) → P x) → (x : Rtx) → P x
tree_induction P step = ind-Rtx P (λ x y is.
    step (roll-Rtx x) (subst (λ (o : Rtx-F Rtx). AllByRecursion P o.kids) (sym (out-roll-Rtx x)) (subst (λ (z : Rtx-F Rtx). AllByRecursion P z.kids) is (all_of P y.kids))))

abbrev BecomesSimple : Rtx → Type 0
BecomesSimple x = IsSimple (simplified x)

all_simple : (kids : List Rtx) → AllByRecursion BecomesSimple kids → AreSimple (map simplified kids)
all_simple [] all = tt
all_simple (x ∷ kids) all = (all.0, all_simple kids all.1)

pub simplified_simple : (x : Rtx) → IsSimple (simplified x)
simplified_simple = tree_induction BecomesSimple (λ x all.
    let whole = tree_of (head_of x) (map simplified (kids_of x)) in
    subst IsSimple (sym (simplified_out x)) (settled_simple whole (subst AreSimple (sym (kids_of-tree (head_of x) (map simplified (kids_of x)))) (all_simple (kids_of x) all))))
