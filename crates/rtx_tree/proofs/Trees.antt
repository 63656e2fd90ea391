-- Laws of trees.
use Rattle.std.proofs.Common.{◌≡◌, ◌≤◌, ℕ, suc, sum, map, Bool, ◌||◌, List, [], ◌∷◌, refl, sym, ap, ◌∙◌, rules, length, take}
use Rattle.std.specs.List.{list_any}
use Rattle.std.proofs.lemmas.List.{take_all}
use Rattle.rtx_tree.specs.declared.tree.Rtx.{Rtx}
use Rattle.rtx_tree.specs.declared.tree.Rtx.TheViews.{the_lemmas}
use Rattle.rtx_tree.specs.declared.tree.Rtx.TheFolds.{fold_out-Rtx}
use Rattle.rtx_tree.specs.Tree.{RtxHead, head_of, kids_of, tree_of, size_step, size_of, is_reg_numbered, mentions_step, mentions_reg}

-- a tree is made of its head and kids
pub tree_of-parts : (x : Rtx) → tree_of (head_of x) (kids_of x) ≡ x
tree_of-parts x = search (rules, the_lemmas)

pub head_of-tree : (h : RtxHead) (kids : List Rtx) → head_of (tree_of h kids) ≡ h
head_of-tree h kids = search (rules, the_lemmas)

pub kids_of-tree : (h : RtxHead) (kids : List Rtx) → kids_of (tree_of h kids) ≡ kids
kids_of-tree h kids = search (rules, the_lemmas)

-- trees with one head and the same kids are one
pub same_parts : (x y : Rtx) → head_of x ≡ head_of y → kids_of x ≡ kids_of y → x ≡ y
same_parts x y h k = sym (tree_of-parts x) ∙ (ap (λ h. tree_of h (kids_of x)) h ∙ (ap (tree_of (head_of y)) k ∙ tree_of-parts y))

-- trees with one head, whose kids agree as far as both go, are one
pub same_from_prefix : (x y : Rtx) (i : ℕ) → head_of x ≡ head_of y → take i (kids_of x) ≡ take i (kids_of y) → length (kids_of x) ≤ i → length (kids_of y) ≤ i → x ≡ y
same_from_prefix x y i h k p q = same_parts x y h (sym (take_all i (kids_of x) p) ∙ (k ∙ take_all i (kids_of y) q))

-- the equation of the fold
pub size_of_out : (x : Rtx) → size_of x ≡ suc (sum (map size_of (kids_of x)))
size_of_out = fold_out-Rtx ℕ size_step

any_of_map : {A : Type 0} (f : A → Bool) (xs : List A) → list_any (λ here. here) (map f xs) ≡ list_any f xs
any_of_map f [] = refl
any_of_map f (x ∷ xs) = ap (λ rest. f x || rest) (any_of_map f xs)

pub mentions_out : (reg : ℕ) (x : Rtx) → mentions_reg reg x ≡ (is_reg_numbered (head_of x).code (head_of x).number reg || list_any (mentions_reg reg) (kids_of x))
mentions_out reg x = fold_out-Rtx Bool (mentions_step reg) x ∙ ap (λ rest. is_reg_numbered (head_of x).code (head_of x).number reg || rest) (any_of_map (mentions_reg reg) (kids_of x))
