-- What a tree stands for as a test, by what the trees in it stand for; and the predicates that a test names.
use Rattle.std.proofs.Common.{◌≡◌, ℕ, ◌≤◌, ◌-◌, List, [], ◌∷◌, ◌++◌, Some, Result, map, take, drop, length, length-drop, get_or, refl, sym, ap, ◌∙◌, append_assoc, arith}
use Rattle.std.proofs.lemmas.List.{take_all}
use Rattle.std.proofs.lemmas.List.Folds.{flat_map-map}
use Rattle.std.specs.List.{flat_map}
use Rattle.rtx_tree.specs.declared.constants.Constant.{Constant}
use Rattle.md_pattern.specs.lisp_read.declared.tree.Tree.{Tree, out-Tree}
use Rattle.md_pattern.specs.lisp_read.declared.tree.Tree.TheFolds.{fold-Tree, fold_out-Tree}
use Rattle.md_pattern.specs.lisp_read.Head.{mode_of_head}
use Rattle.md_pattern.specs.lisp_read.Shape.{atom_of, items_of}
use Rattle.md_pattern.specs.declared.reason.Reason.{Reason}
use Rattle.md_pattern.proofs.Meanings.{inside_map, list_inside}
use Rattle.pred_expr.specs.declared.question.Test.{Test, out-Test}
use Rattle.pred_expr.specs.declared.question.Test.TheFolds.{fold_out-Test}
use Rattle.pred_expr.specs.Test.{predicate_of, predicates_step, predicates_of, kind_of, list_by, of_kind, each_read, test_step, test_of}

abbrev Judgement : Type 0
Judgement = Result Test Reason

reading : List Constant → Tree → Tree → Judgement
reading constants = fold-Tree (Tree → Judgement) (test_step constants)

each_read_map : (constants : List Constant) (ts : List Tree) → each_read (map (reading constants) ts) ts ≡ map (test_of constants) ts
unfolding test_of reading
each_read_map constants [] = refl
each_read_map constants (t ∷ ts) = ap (λ (xs : List Judgement). test_of constants t ∷ xs) (each_read_map constants ts)

-- a list, by its items
pub test_out : (constants : List Constant) (t : Tree) → test_of constants t ≡ list_by constants (items_of t) (map (test_of constants) (items_of t))
unfolding test_of reading
test_out constants t =
    ap (λ (read : Tree → Judgement). read t) (fold_out-Tree (Tree → Judgement) (test_step constants) t)
    ∙ ap (list_by constants (items_of t)) (inside_map each_read (reading constants) (test_of constants) (each_read_map constants) (out-Tree t))
    ∙ list_inside (list_by constants) (λ xs ys. refl) (test_of constants) (out-Tree t)

-- what stands behind the first of some trees, as the code cuts it
behind : (items : List Tree) → take (length items - 1) (drop 1 items) ≡ drop 1 items
behind items = take_all (length items - 1) (drop 1 items) (rw (length-drop 1 items) (omega arith))

at_head : (constants : List Constant) (items : List Tree) (h : Tree) (text : List ℕ) → 1 ≤ length items → h ≡ get_or items 0 h → Some text ≡ atom_of h →
    list_by constants items (map (test_of constants) items) ≡ of_kind constants (kind_of text) (mode_of_head text) (drop 1 items) (map (test_of constants) (drop 1 items))
at_head constants [] h text within is a = absurd (grind (arith, within))
at_head constants (x ∷ xs) h text within is a =
    let atom : atom_of x ≡ Some text = ap atom_of (sym is) ∙ sym a in
    rw atom refl

-- a list with an atom at its head
pub test_at : (constants : List Constant) (t : Tree) (items : List Tree) (h : Tree) (text name : List ℕ) → items ≡ items_of t → 1 ≤ length items → h ≡ get_or items 0 h → Some name ≡ atom_of h → text ≡ name →
    test_of constants t ≡ of_kind constants (kind_of text) (mode_of_head text) (take (length items - 1) (drop 1 items)) (map (test_of constants) (take (length items - 1) (drop 1 items)))
test_at constants t items h text name e within is a same =
    test_out constants t ∙ rw (behind items) (rw (sym e) (at_head constants items h text within is (rw same a)))

-- a test names what it asks for itself, and what its parts name
pub predicates_out : (t : Test) → predicates_of t ≡ predicate_of (out-Test t).question ++ flat_map predicates_of (out-Test t).parts
predicates_out t = fold_out-Test (List (List ℕ)) predicates_step t ∙ ap (λ (rest : List (List ℕ)). predicate_of (out-Test t).question ++ rest) (flat_map-map (λ (names : List (List ℕ)). names) predicates_of (out-Test t).parts)

-- what it asks for itself was appended
pub pushed_first : (t : Test) (old names : List (List ℕ)) (parts : List Test) → names ≡ old ++ predicate_of (out-Test t).question → parts ≡ (out-Test t).parts → names ++ flat_map predicates_of parts ≡ old ++ predicates_of t
pushed_first t old names parts made is = rw made (rw is (rw (predicates_out t) (append_assoc old (predicate_of (out-Test t).question) (flat_map predicates_of (out-Test t).parts))))
