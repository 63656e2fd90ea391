-- How far the deepest sum in a tree goes, by its kids.
use Rattle.std.proofs.Common.{◌≡◌, max, fold, List, [], ◌∷◌, map, refl, sym, ap, subst, ◌∙◌}
use Rattle.rtx_tree.specs.declared.tree.Rtx.{Rtx, out-Rtx, roll-Rtx}
use Rattle.rtx_tree.specs.declared.tree.Rtx.TheOpen.{Rtx-F}
use Rattle.rtx_tree.specs.declared.tree.Rtx.TheFolds.{fold-Rtx, fold_out-Rtx, fold-roll-Rtx, ind-Rtx}
use Rattle.rtl_read.specs.Locals.{Depths, depths_step, depth_at, deepest_in}

abbrev depths_of : Rtx → Depths
depths_of = fold-Rtx Depths depths_step

abbrev whole_of : Rtx → Rtx
whole_of x = (depths_of x).whole

map_whole : (kids : List Rtx) → map (λ (k : Depths). k.whole) (map depths_of kids) ≡ map whole_of kids
map_whole [] = refl
map_whole (k ∷ kids) = ap (λ rest. whole_of k ∷ rest) (map_whole kids)

all_whole : (kids : List ((x : Rtx) × (whole_of x ≡ x))) → map whole_of (map (λ e. e.0) kids) ≡ map (λ e. e.0) kids
all_whole [] = refl
all_whole (k ∷ kids) = ap (λ x. x ∷ map whole_of (map (λ e. e.0) kids)) k.1 ∙ ap (λ rest. k.0 ∷ rest) (all_whole kids)

abbrev with_kids : Rtx-F Rtx → List Rtx → Rtx
with_kids x kids = roll-Rtx (record { code = x.code; mode = x.mode; number = x.number; name = x.name; kids = kids })

-- the fold builds the tree again
whole_is : (x : Rtx) → whole_of x ≡ x
whole_is = ind-Rtx (λ x. whole_of x ≡ x) (λ x y is.
    let kids = subst (λ (z : Rtx-F Rtx). map whole_of z.kids ≡ z.kids) is (all_whole y.kids) in
    ap (λ (n : Depths). n.whole) (fold-roll-Rtx Depths depths_step x) ∙ ap (with_kids x) (map_whole x.kids ∙ kids))

map_deepest : (kids : List Rtx) → map (λ (k : Depths). k.deepest) (map depths_of kids) ≡ map deepest_in kids
map_deepest [] = refl
map_deepest (k ∷ kids) = ap (λ rest. deepest_in k ∷ rest) (map_deepest kids)

-- the tree itself, and the trees within its kids
pub deepest_out : (x : Rtx) → deepest_in x ≡ fold max (depth_at x) (map deepest_in (out-Rtx x).kids)
deepest_out x =
    let whole = sym (ap (λ (n : Depths). n.whole) (fold_out-Rtx Depths depths_step x)) ∙ whole_is x in
    ap (λ (n : Depths). n.deepest) (fold_out-Rtx Depths depths_step x)
    ∙ (ap (λ here. fold max (depth_at here) (map (λ (k : Depths). k.deepest) (map depths_of (out-Rtx x).kids))) whole
    ∙ ap (fold max (depth_at x)) (map_deepest (out-Rtx x).kids))
