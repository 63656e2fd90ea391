-- An expression as the tree that its text writes.
use Rattle.std.proofs.Common.{◌≡◌, ℕ, ℤ, List, [], ◌∷◌, ◌++◌, map, codes, refl, ap, ◌∙◌}
use Rattle.std.specs.Fmt.{signed_decimal}
use Rattle.rtx_tree.specs.declared.tree.Rtx.{Rtx, out-Rtx, out-roll-Rtx}
use Rattle.rtx_tree.specs.declared.tree.Rtx.TheOpen.{Rtx-F}
use Rattle.rtx_tree.specs.declared.tree.Rtx.TheFolds.{fold-Rtx, fold_out-Rtx}
use Rattle.rtx_tree.specs.Tree.{RtxHead, tree_of}
use Rattle.lisp_read.specs.declared.tree.Tree.{Tree}
use Rattle.lisp_read.specs.declared.tree.Tree.TheVariants as tree
use Rattle.rtx_tree.specs.declared.class.Class.{Class}
use Rattle.rtx_tree.specs.declared.class.Class.TheVariants as class
use Rattle.rtx_tree.specs.Code.{class_of_code}
use Rattle.tree_print.specs.Print.{nowhere}
use Rattle.rtl_print.specs.Print.{head_text, printed_reg, starred}

abbrev pub atom : List ℕ → Tree
atom text = tree.Atom nowhere text

abbrev pub string : List ℕ → Tree
string text = tree.Str nowhere text

abbrev pub list : List Tree → Tree
list items = tree.List nowhere items

abbrev pub vector : List Tree → Tree
vector items = tree.Vector nowhere items

-- what stands behind the head of an expression, by its kids' trees, and by those of its kids' numbers alone
abbrev pub parts_by : Class → ℤ → List ℕ → List Tree → List Tree → List Tree
parts_by class.Register n name kids labels = atom (printed_reg n) ∷ []
parts_by class.Constant n name kids labels = atom (signed_decimal n) ∷ []
parts_by class.Symbol n name kids labels = list (string (starred name) ∷ []) ∷ []
parts_by class.Label n name kids labels = labels
parts_by class.Lowpart n name kids labels = kids ++ atom (codes "0") ∷ []
parts_by class.Parallel n name kids labels = vector kids ∷ []
parts_by _ n name kids labels = kids

record Written : Type 0 where
  pub whole : Tree
  pub bare : Tree

step : Rtx-F Written → Written
step x = record {
  whole = list (atom (head_text x.code x.mode) ∷ parts_by (class_of_code x.code) x.number x.name (map (λ k. k.whole) x.kids) (map (λ k. k.bare) x.kids));
  bare = atom (signed_decimal x.number);
}

trees_of : Rtx → Written
trees_of = fold-Rtx Written step

pub written : Rtx → Tree
written x = (trees_of x).whole

abbrev pub label_tree : Rtx → Tree
label_tree x = atom (signed_decimal (out-Rtx x).number)

abbrev layer : Rtx-F Rtx → List Tree → List Tree → Tree
layer o kids labels = list (atom (head_text o.code o.mode) ∷ parts_by (class_of_code o.code) o.number o.name kids labels)

bare_of : (x : Rtx) → (trees_of x).bare ≡ label_tree x
unfolding trees_of step
bare_of x = ap (λ (w : Written). w.bare) (fold_out-Rtx Written step x)

wholes : (xs : List Rtx) → map (λ (k : Written). k.whole) (map trees_of xs) ≡ map written xs
unfolding written
wholes [] = refl
wholes (x ∷ xs) = ap (λ (ts : List Tree). written x ∷ ts) (wholes xs)

bares : (xs : List Rtx) → map (λ (k : Written). k.bare) (map trees_of xs) ≡ map label_tree xs
bares [] = refl
bares (x ∷ xs) = ap (λ (t : Tree). t ∷ map (λ (k : Written). k.bare) (map trees_of xs)) (bare_of x) ∙ ap (λ (ts : List Tree). label_tree x ∷ ts) (bares xs)

pub written_out : (x : Rtx) → written x ≡ layer (out-Rtx x) (map written (out-Rtx x).kids) (map label_tree (out-Rtx x).kids)
unfolding written trees_of step
written_out x =
    let o = out-Rtx x in
    ap (λ (w : Written). w.whole) (fold_out-Rtx Written step x)
    ∙ ap (λ (kids : List Tree). layer o kids (map (λ (k : Written). k.bare) (map trees_of o.kids))) (wholes o.kids)
    ∙ ap (λ (labels : List Tree). layer o (map written o.kids) labels) (bares o.kids)

pub written_of : (h : RtxHead) (kids : List Rtx) → written (tree_of h kids) ≡ list (atom (head_text h.code h.mode) ∷ parts_by (class_of_code h.code) h.number h.name (map written kids) (map label_tree kids))
written_of h kids =
    written_out (tree_of h kids)
    ∙ ap (λ (o : Rtx-F Rtx). layer o (map written o.kids) (map label_tree o.kids)) (out-roll-Rtx (record { code = h.code; mode = h.mode; number = h.number; name = h.name; kids = kids }))
