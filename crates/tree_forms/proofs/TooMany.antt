-- A description of which some trees have too many forms has too many.
use Rattle.std.proofs.Common.{◌≡◌, ◌≤◌, ◌<◌, ℕ, ◌+◌, List, ◌++◌, length, take, drop, ap, subst, ◌∙◌, arith}
use Rattle.std.proofs.lemmas.List.{take-append-drop, length-append}
use Rattle.std.proofs.lemmas.List.Concat.{flat_map-append}
use Rattle.lisp_read.specs.declared.tree.Tree.{Tree}
use Rattle.md_iter.specs.declared.substitution.Instance.{Instance}
use Rattle.md_iter.specs.declared.definition.Definitions.{Definitions}
use Rattle.md_iter.specs.Definition.{definitions_in}
use Rattle.md_iter.specs.Expansion.{forms_of, forms_of_tree, forms_with, PassesAt}
use Rattle.rtx_tree.specs.Limit.{most_forms}
use Rattle.tree_forms.specs.Trees.{expanded}

front_has_fewer : (d : Definitions) (front back : List Tree) → length (forms_with d front) ≤ length (forms_with d (front ++ back))
front_has_fewer d front back =
    let all : length (forms_with d (front ++ back)) ≡ length (forms_with d front) + length (forms_with d back) =
    ap (λ (l : List Instance). length l) (flat_map-append (forms_of_tree d) front back) ∙ length-append (forms_with d front) (forms_with d back) in
    omega (arith, all)

pub passes : (trees : List Tree) (at : ℕ) → PassesAt (definitions_in trees) trees at → most_forms < length (forms_of trees)
passes trees at p =
    let d = definitions_in trees in
    let fewer : length (forms_with d (take (at + 1) trees)) ≤ length (forms_with d trees) =
    subst (λ (l : List Tree). length (forms_with d (take (at + 1) trees)) ≤ length (forms_with d l)) (take-append-drop (at + 1) trees) (front_has_fewer d (take (at + 1) trees) (drop (at + 1) trees)) in
    let after = p.after in
    omega (arith, fewer, after)

-- trees have too many forms or they don't
pub many_or_few : (ts us : List Tree) → ts ≡ us → most_forms < length (expanded ts) → length (expanded us) ≤ most_forms → ⊥
many_or_few ts us same many few = let e = ap (λ (l : List Tree). length (expanded l)) same in omega arith
