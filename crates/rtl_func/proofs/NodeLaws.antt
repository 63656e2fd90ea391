-- The trees within a tree, by the trees within its kids.
use Rattle.std.proofs.Common.{◌≡◌, List, [], ◌∷◌, ◌++◌, map, refl, sym, ap, subst, ◌∙◌}
use Rattle.std.specs.List.{flat_map}
use Rattle.rtx_tree.specs.declared.tree.Rtx.{Rtx, roll-Rtx}
use Rattle.rtx_tree.specs.declared.tree.Rtx.TheOpen.{Rtx-F}
use Rattle.rtx_tree.specs.declared.tree.Rtx.TheFolds.{fold-Rtx, fold_out-Rtx, fold-roll-Rtx, ind-Rtx}
use Rattle.rtx_tree.specs.Tree.{kids_of}
use Rattle.rtl_func.specs.Nodes.{Nodes, nodes_step, nodes_of}

abbrev whole_of : Rtx → Rtx
whole_of x = (fold-Rtx Nodes nodes_step x).whole

map_whole : (kids : List Rtx) → map (λ (k : Nodes). k.whole) (map (fold-Rtx Nodes nodes_step) kids) ≡ map whole_of kids
map_whole [] = refl
map_whole (k ∷ kids) = ap (λ rest. whole_of k ∷ rest) (map_whole kids)

all_whole : (kids : List ((x : Rtx) × (whole_of x ≡ x))) → map whole_of (map (λ e. e.0) kids) ≡ map (λ e. e.0) kids
all_whole [] = refl
all_whole (k ∷ kids) = ap (λ x. x ∷ map whole_of (map (λ e. e.0) kids)) k.1 ∙ ap (λ rest. k.0 ∷ rest) (all_whole kids)

abbrev with_kids : Rtx-F Rtx → List Rtx → Rtx
with_kids x kids = roll-Rtx (record { code = x.code; mode = x.mode; number = x.number; name = x.name; kids = kids })

-- the fold builds the tree again
pub whole_is : (x : Rtx) → (fold-Rtx Nodes nodes_step x).whole ≡ x
whole_is = ind-Rtx (λ x. whole_of x ≡ x) (λ x y is.
    let kids = subst (λ (z : Rtx-F Rtx). map whole_of z.kids ≡ z.kids) is (all_whole y.kids) in
    ap (λ (n : Nodes). n.whole) (fold-roll-Rtx Nodes nodes_step x) ∙ ap (with_kids x) (map_whole x.kids ∙ kids))

all_nodes : (kids : List Rtx) → flat_map (λ (k : Nodes). k.all) (map (fold-Rtx Nodes nodes_step) kids) ≡ flat_map nodes_of kids
all_nodes [] = refl
all_nodes (k ∷ kids) = ap (λ rest. nodes_of k ++ rest) (all_nodes kids)

-- the tree itself, and the trees within its kids
pub nodes_out : (x : Rtx) → nodes_of x ≡ x ∷ flat_map nodes_of (kids_of x)
nodes_out x =
    let whole = sym (ap (λ (n : Nodes). n.whole) (fold_out-Rtx Nodes nodes_step x)) ∙ whole_is x in
    ap (λ (n : Nodes). n.all) (fold_out-Rtx Nodes nodes_step x)
    ∙ (ap (λ first. first ∷ flat_map (λ (k : Nodes). k.all) (map (fold-Rtx Nodes nodes_step) (kids_of x))) whole
    ∙ ap (λ rest. x ∷ rest) (all_nodes (kids_of x)))
