-- Which predicates an expression names, by what its kids name.
use Rattle.std.proofs.Common.{◌≡◌, ℕ, List, [], ◌++◌, ap, ◌∙◌, append_assoc}
use Rattle.std.proofs.lemmas.List.Folds.{flat_map-map}
use Rattle.std.specs.List.{flat_map}
use Rattle.rtx_tree.specs.declared.tree.Rtx.{Rtx}
use Rattle.rtx_tree.specs.declared.tree.Rtx.TheFolds.{fold_out-Rtx}
use Rattle.rtx_tree.specs.Tree.{head_of, kids_of}
use Rattle.md_tables.specs.Names.{predicate_here, predicates_step, predicates_in}

predicates_out : (x : Rtx) → predicates_in x ≡ predicate_here (head_of x).code (head_of x).name ++ flat_map predicates_in (kids_of x)
predicates_out x = fold_out-Rtx (List (List ℕ)) predicates_step x ∙ ap (λ (rest : List (List ℕ)). predicate_here (head_of x).code (head_of x).name ++ rest) (flat_map-map (λ (names : List (List ℕ)). names) predicates_in (kids_of x))

-- what an expression names itself was appended
pub predicates_first : (x : Rtx) (old names : List (List ℕ)) (kids : List Rtx) → names ≡ old ++ predicate_here (head_of x).code (head_of x).name → kids ≡ kids_of x → names ++ flat_map predicates_in kids ≡ old ++ predicates_in x
predicates_first x old names kids made is = rw made (rw is (rw (predicates_out x) (append_assoc old (predicate_here (head_of x).code (head_of x).name) (flat_map predicates_in (kids_of x)))))

-- six lists, appended one after the other
pub six : (l1 l2 l3 l4 l5 l6 a b c d e f : List (List ℕ)) → l1 ≡ [] ++ a → l2 ≡ l1 ++ b → l3 ≡ l2 ++ c → l4 ≡ l3 ++ d → l5 ≡ l4 ++ e → l6 ≡ l5 ++ f → l6 ≡ a ++ (b ++ (c ++ (d ++ (e ++ f))))
six l1 l2 l3 l4 l5 l6 a b c d e f h1 h2 h3 h4 h5 h6 =
    rw h6 (rw h5 (rw h4 (rw h3 (rw h2 (rw h1
    (append_assoc (((a ++ b) ++ c) ++ d) e f ∙ append_assoc ((a ++ b) ++ c) d (e ++ f) ∙ append_assoc (a ++ b) c (d ++ (e ++ f)) ∙ append_assoc a b (c ++ (d ++ (e ++ f)))))))))
