-- The placeholders of a pattern, by what it stands for.
use Rattle.std.proofs.Common.{◌≡◌, List, [], ◌∷◌, ◌++◌, map, refl, ap, ◌∙◌}
use Rattle.std.specs.Prelude.{flat_map}
use Rattle.std.specs.List.{AllByRecursion}
use Rattle.rtx_tree.specs.declared.tree.Rtx.{Rtx}
use Rattle.rtx_tree.specs.declared.tree.Rtx.TheFolds.{fold_out-Rtx}
use Rattle.rtx_tree.specs.Tree.{head_of, kids_of, tree_of}
use Rattle.rtx_tree.proofs.Trees.{tree_of-parts}
use Rattle.md_match.specs.Pattern.{Noted, noted_as, noted_step, noted, role_of, placeholders, placeholders_as}
use Rattle.md_match.proofs.RtxInduction.{induction}

noted_out : (x : Rtx) → noted x ≡ noted_as (role_of (head_of x).code) (tree_of (head_of x) (map (λ (kid : Noted). kid.tree) (map noted (kids_of x)))) (flat_map (λ (kid : Noted). kid.placeholders) (map noted (kids_of x)))
unfolding noted
noted_out = fold_out-Rtx Noted noted_step

trees_same : (xs : List Rtx) → AllByRecursion (λ x. (noted x).tree ≡ x) xs → map (λ (kid : Noted). kid.tree) (map noted xs) ≡ xs
trees_same [] all = refl
trees_same (x ∷ xs) all = ap (λ y. y ∷ map (λ (kid : Noted). kid.tree) (map noted xs)) all.0 ∙ ap (λ ys. x ∷ ys) (trees_same xs all.1)

-- an expression is noted as itself
tree_same : (x : Rtx) → (noted x).tree ≡ x
tree_same = induction (λ x. (noted x).tree ≡ x) (λ x all. ap (λ (n : Noted). n.tree) (noted_out x) ∙ (ap (tree_of (head_of x)) (trees_same (kids_of x) all) ∙ tree_of-parts x))

each_tree : (xs : List Rtx) → map (λ (kid : Noted). kid.tree) (map noted xs) ≡ xs
each_tree [] = refl
each_tree (x ∷ xs) = ap (λ y. y ∷ map (λ (kid : Noted). kid.tree) (map noted xs)) (tree_same x) ∙ ap (λ ys. x ∷ ys) (each_tree xs)

each_inside : (xs : List Rtx) → flat_map (λ (kid : Noted). kid.placeholders) (map noted xs) ≡ flat_map placeholders xs
each_inside [] = refl
each_inside (x ∷ xs) = ap (λ ys. placeholders x ++ ys) (each_inside xs)

pub placeholders_out : (x : Rtx) → placeholders x ≡ placeholders_as (role_of (head_of x).code) x (flat_map placeholders (kids_of x))
placeholders_out x =
    ap (λ (n : Noted). n.placeholders) (noted_out x) ∙
    (ap (λ t. placeholders_as (role_of (head_of x).code) t (flat_map (λ (kid : Noted). kid.placeholders) (map noted (kids_of x)))) (ap (tree_of (head_of x)) (each_tree (kids_of x)) ∙ tree_of-parts x) ∙
    ap (placeholders_as (role_of (head_of x).code) x) (each_inside (kids_of x)))
