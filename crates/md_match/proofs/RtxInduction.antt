-- Induction over expressions: what holds of each expression whose kids it holds of, holds of all.
use Rattle.std.proofs.Common.{List, [], ◌∷◌, map, sym, subst}
use Rattle.std.specs.List.{AllByRecursion}
use Rattle.rtx_tree.specs.declared.tree.Rtx.{Rtx, roll-Rtx}
use Rattle.rtx_tree.specs.declared.tree.Rtx.TheFolds.{ind-Rtx, map-Rtx}
use Rattle.rtx_tree.specs.declared.tree.Rtx.TheOpen.{Rtx-F}
use Rattle.rtx_tree.specs.Tree.{kids_of, tree_of}
use Rattle.rtx_tree.proofs.Trees.{kids_of-tree}
use Rattle.md_match.specs.Pattern.{layer_head}

abbrev With : (Rtx → Type 0) → Type 0
With P = (x : Rtx) × P x

all_of : (P : Rtx → Type 0) (ys : List (With P)) → AllByRecursion P (map (λ (y : With P). y.0) ys)
all_of P [] = tt
all_of P (y ∷ ys) = (y.1, all_of P ys)

module _ (P : Rtx → Type 0) (step : (x : Rtx) → AllByRecursion P (kids_of x) → P x) where
  layer : (y : Rtx-F (With P)) → P (roll-Rtx (map-Rtx (With P) Rtx (λ e. e.0) y))
  layer y =
      let kids = map (λ (e : With P). e.0) y.kids in
      step (tree_of (layer_head y) kids) (subst (AllByRecursion P) (sym (kids_of-tree (layer_head y) kids)) (all_of P y.kids))

  pub induction : (x : Rtx) → P x
  induction = ind-Rtx P (λ x y e. subst (λ (z : Rtx-F Rtx). P (roll-Rtx z)) e (layer y))
