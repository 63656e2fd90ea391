-- What the rules ask of trees, by the trees within their kids.
use Rattle.std.proofs.Common.{◌≡◌, Bool, true, false, ◌&&◌, List, [], ◌∷◌, ◌++◌, refl, sym, ap, ◌∙◌}
use Rattle.std.specs.List.{list_all, flat_map}
use Rattle.rtx_tree.specs.declared.function.Function.{Function}
use Rattle.rtx_tree.specs.declared.tree.Rtx.{Rtx}
use Rattle.rtx_tree.specs.Tree.{kids_of}
use Rattle.rtl_func.specs.declared.nodes.NodeRule.{NodeRule}
use Rattle.rtl_func.specs.declared.trees.TreeRule.{TreeRule}
use Rattle.rtl_func.specs.Effects.{changes_once, parallels_change_once}
use Rattle.rtl_func.specs.Nodes.{nodes_of}
use Rattle.rtl_func.specs.machine.TreeRules.{tree_keeps, trees_keep}
use Rattle.rtl_func.specs.machine.NodeRules.{node_keeps, nodes_keep}
use Rattle.rtl_func.proofs.NodeLaws.{nodes_out}

and_assoc : (a b c : Bool) → ((a && b) && c) ≡ (a && (b && c))
and_assoc true b c = refl
and_assoc false b c = refl

all-append : {A : Type 0} (test : A → Bool) (xs ys : List A) → list_all test (xs ++ ys) ≡ (list_all test xs && list_all test ys)
all-append test [] ys = refl
all-append test (x ∷ xs) ys = ap (λ rest. test x && rest) (all-append test xs ys) ∙ sym (and_assoc (test x) (list_all test xs) (list_all test ys))

all_within : (test : Rtx → Bool) (kids : List Rtx) → list_all test (flat_map nodes_of kids) ≡ list_all (λ k. list_all test (nodes_of k)) kids
all_within test [] = refl
all_within test (k ∷ kids) = all-append test (nodes_of k) (flat_map nodes_of kids) ∙ ap (λ rest. list_all test (nodes_of k) && rest) (all_within test kids)

pub all_out : (test : Rtx → Bool) (x : Rtx) → list_all test (nodes_of x) ≡ (test x && list_all (λ k. list_all test (nodes_of k)) (kids_of x))
all_out test x = ap (list_all test) (nodes_out x) ∙ ap (λ rest. test x && rest) (all_within test (kids_of x))

pub tree_out : (rule : TreeRule) (x : Rtx) → trees_keep rule x ≡ (tree_keeps rule x && list_all (trees_keep rule) (kids_of x))
tree_out rule x = all_out (tree_keeps rule) x

pub once_out : (x : Rtx) → parallels_change_once x ≡ (changes_once x && list_all parallels_change_once (kids_of x))
once_out x = all_out changes_once x

pub keep_out : (rule : NodeRule) (f : Function) (x : Rtx) → nodes_keep rule f x ≡ (node_keeps rule f x && list_all (nodes_keep rule f) (kids_of x))
keep_out rule f x = all_out (node_keeps rule f) x
