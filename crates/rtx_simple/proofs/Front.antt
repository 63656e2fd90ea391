-- Kids of which the first ones are simplified.
use Rattle.std.proofs.Common.{◌≡◌, ◌+◌, ◌<◌, ◌≤◌, ℕ, zero, suc, List, [], ◌∷◌, map, length, refl, sym, ap, subst, ◌∙◌, arith, rules, Some}
use Rattle.std.specs.Prelude.{slice_get, slice_set}
use denote.Param.Weighed.{most}
use Rattle.rtx_tree.specs.declared.tree.Rtx.{Rtx, roll-Rtx}
use Rattle.rtx_tree.specs.declared.tree.Rtx.TheFolds as folds
use Rattle.rtx_tree.proofs.tree.Rtx.TheLaws.{the_size}
use Rattle.rtx_tree.specs.Tree.{head_of, kids_of, tree_of}
use Rattle.rtx_tree.proofs.Trees.{tree_of-parts, head_of-tree, kids_of-tree}
use Rattle.rtx_simple.specs.Simple.{settled, simplified}

-- so many of the first ones
abbrev pub front : ℕ → List Rtx → List Rtx
front zero kids = kids
front (suc n) [] = []
front (suc n) (x ∷ kids) = simplified x ∷ front n kids

pub front_len : (n : ℕ) (kids : List Rtx) → length (front n kids) ≡ length kids
front_len zero kids = refl
front_len (suc n) [] = refl
front_len (suc n) (x ∷ kids) = ap suc (front_len n kids)

pub front_next : (n : ℕ) (kids : List Rtx) → slice_get (front n kids) n ≡ slice_get kids n
front_next zero kids = refl
front_next (suc n) [] = refl
front_next (suc n) (x ∷ kids) = front_next n kids

front_more : (n : ℕ) (kids : List Rtx) (x : Rtx) → slice_get kids n ≡ Some x → slice_set (front n kids) n (simplified x) ≡ front (suc n) kids
front_more zero [] x here = cc
front_more zero (y ∷ kids) x here = let same : x ≡ y = cc in ap (λ z. simplified z ∷ kids) same
front_more (suc n) [] x here = cc
front_more (suc n) (y ∷ kids) x here = ap (λ rest. simplified y ∷ rest) (front_more n kids x here)

front_whole : (n : ℕ) (kids : List Rtx) → length kids ≤ n → front n kids ≡ map simplified kids
front_whole zero [] all = refl
front_whole zero (x ∷ kids) all = absurd (omega arith)
front_whole (suc n) [] all = refl
front_whole (suc n) (x ∷ kids) all = ap (λ rest. simplified x ∷ rest) (front_whole n kids (omega arith))

-- one more of them
pub front_put : (n : ℕ) (kids old : List Rtx) (x y : Rtx) → old ≡ front n kids → slice_get old n ≡ Some x → y ≡ simplified x → slice_set old n y ≡ front (n + 1) kids
front_put n kids old x y is here same =
    let there = sym (front_next n kids) ∙ (ap (λ ks. slice_get ks n) (sym is) ∙ here) in
    let next : suc n ≡ n + 1 = omega arith in
    ap (λ ks. slice_set ks n y) is ∙ (ap (slice_set (front n kids) n) same ∙ (front_more n kids x there ∙ ap (λ k. front k kids) next))

-- the tree with one kid more simplified
pub head_put : (x whole : Rtx) (kids : List Rtx) → head_of x ≡ head_of whole → head_of (tree_of (head_of x) kids) ≡ head_of whole
head_put x whole kids head = head_of-tree (head_of x) kids ∙ head

pub kids_put : (whole x kid new : Rtx) (n : ℕ) → kids_of x ≡ front n (kids_of whole) → slice_get (kids_of x) n ≡ Some kid → new ≡ simplified kid →
    kids_of (tree_of (head_of x) (slice_set (kids_of x) n new)) ≡ front (n + 1) (kids_of whole)
kids_put whole x kid new n kids here same =
    kids_of-tree (head_of x) (slice_set (kids_of x) n new) ∙ front_put n (kids_of whole) (kids_of x) kid new kids here same

-- ---- each kid is smaller than the whole

items_below : (x : Rtx) → most (λ y. the_size y) (kids_of x) < the_size x
items_below x = search (rules, folds.the_lemmas)

below_most : (kids : List Rtx) (n : ℕ) (x : Rtx) → slice_get kids n ≡ Some x → the_size x ≤ most (λ y. the_size y) kids
below_most [] n x here = cc
below_most (y ∷ kids) zero x here = let same : x ≡ y = cc in let size = ap (λ z. the_size z) same in omega arith
below_most (y ∷ kids) (suc n) x here = let rest = below_most kids n x here in omega arith

pub kid_below : (whole : Rtx) (n : ℕ) (old : List Rtx) (x : Rtx) → old ≡ front n (kids_of whole) → slice_get old n ≡ Some x → the_size x < the_size whole
kid_below whole n old x is here =
    let there = sym (front_next n (kids_of whole)) ∙ (ap (λ ks. slice_get ks n) (sym is) ∙ here) in
    let small = below_most (kids_of whole) n x there in
    let all = items_below whole in
    omega arith

-- ---- all of them

pub simplified_out : (x : Rtx) → simplified x ≡ settled 3 (tree_of (head_of x) (map simplified (kids_of x)))
unfolding simplified
simplified_out = folds.fold_out-Rtx Rtx (λ x. settled 3 (roll-Rtx x))

pub all_front : (whole x : Rtx) (n : ℕ) → head_of x ≡ head_of whole → kids_of x ≡ front n (kids_of whole) → length (kids_of whole) ≤ n → settled 3 x ≡ simplified whole
all_front whole x n head kids all =
    let parts = sym (tree_of-parts x) ∙ (ap (λ h. tree_of h (kids_of x)) head ∙ ap (tree_of (head_of whole)) (kids ∙ front_whole n (kids_of whole) all)) in
    ap (settled 3) parts ∙ sym (simplified_out whole)

pub ruleset the_front = (front_len, front_put, kid_below, all_front)
