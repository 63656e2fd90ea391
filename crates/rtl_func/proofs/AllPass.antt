-- A test of each tree within a tree, by its parts.
use Rattle.std.proofs.Common.{◌≡◌, Bool, true, ◌&&◌, List, [], ◌∷◌, refl, sym, ap, ◌∙◌}
use Rattle.std.specs.List.{list_all, flat_map}
use Rattle.std.proofs.lemmas.Bool.{and_parts}
use Rattle.std.proofs.lemmas.List.Folds.{list_all-append}
use Rattle.rtx_tree.specs.declared.tree.Rtx.{Rtx}
use Rattle.rtx_tree.specs.Tree.{kids_of}
use Rattle.rtl_func.specs.Nodes.{nodes_of}
use Rattle.rtl_func.proofs.NodeLaws.{nodes_out}

-- each tree within a tree passes
abbrev pub all_pass : (Rtx → Bool) → Rtx → Bool
all_pass test x = list_all test (nodes_of x)

in_parts : (test : Rtx → Bool) (parts : List Rtx) → list_all test (flat_map nodes_of parts) ≡ list_all (all_pass test) parts
in_parts test [] = refl
in_parts test (x ∷ parts) =
    list_all-append test (nodes_of x) (flat_map nodes_of parts)
    ∙ ap (λ rest. all_pass test x && rest) (in_parts test parts)

-- the tree itself passes, and each tree within its parts
pub pass_out : (test : Rtx → Bool) (x : Rtx) → all_pass test x ≡ (test x && list_all (all_pass test) (kids_of x))
pass_out test x = ap (list_all test) (nodes_out x) ∙ ap (λ rest. test x && rest) (in_parts test (kids_of x))

-- then the tree itself passes, and its parts do
pub itself : (test : Rtx → Bool) (x : Rtx) → all_pass test x ≡ true → test x ≡ true
itself test x all = (and_parts (test x) (list_all (all_pass test) (kids_of x)) (sym (pass_out test x) ∙ all)).0

pub within : (test : Rtx → Bool) (x : Rtx) → all_pass test x ≡ true → list_all (all_pass test) (kids_of x) ≡ true
within test x all = (and_parts (test x) (list_all (all_pass test) (kids_of x)) (sym (pass_out test x) ∙ all)).1
