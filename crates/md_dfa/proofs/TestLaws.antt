-- What a tree stands for as a test, by what the trees in it stand for; and when a test holds, by its parts.
use Rattle.std.proofs.Common.{◌≡◌, ℕ, ◌≤◌, ◌-◌, ◌==◌, Bool, true, false, ◌&&◌, ◌||◌, List, [], ◌∷◌, Option, Some, None, option_map, option_and_then, map, take, drop, length, length-drop, get_or, refl, sym, ap, ◌∙◌, arith}
use Rattle.std.specs.Prelude.{not}
use Rattle.std.specs.List.{list_all, list_any}
use Rattle.std.proofs.lemmas.Bool.{ne_eqb, eq-eqb}
use Rattle.std.proofs.lemmas.List.{take_all, length-map}
use Rattle.lisp_read.specs.declared.tree.Tree.{Tree, out-Tree}
use Rattle.lisp_read.specs.declared.tree.Tree.TheFolds.{fold-Tree, fold_out-Tree}
use Rattle.lisp_read.specs.Shape.{atom_of, items_of}
use Rattle.md_text.specs.Lists.{each}
use Rattle.md_pattern.proofs.Meanings.{inside_map, list_inside}
use Rattle.md_forms.specs.declared.form.Entry.{Entry}
use Rattle.md_dfa.specs.declared.test.Question.{Question}
use Rattle.md_dfa.specs.declared.test.Question.TheVariants as question
use Rattle.md_dfa.specs.declared.test.Test.{Test, out-Test}
use Rattle.md_dfa.specs.declared.test.Test.TheFolds.{fold_out-Test}
use Rattle.md_dfa.specs.Test.{test_with, kind_of, joined, of_kind, list_by, each_read, test_step, test_of, has_value, answer, holds_step, test_holds}

-- ---- trees

reading : Tree → Tree → Option Test
reading = fold-Tree (Tree → Option Test) test_step

each_read_map : (ts : List Tree) → each_read (map reading ts) ts ≡ map test_of ts
unfolding test_of reading
each_read_map [] = refl
each_read_map (t ∷ ts) = ap (λ (xs : List (Option Test)). test_of t ∷ xs) (each_read_map ts)

-- a list, by its items
pub test_out : (t : Tree) → test_of t ≡ list_by (items_of t) (map test_of (items_of t))
unfolding test_of reading
test_out t =
    ap (λ (read : Tree → Option Test). read t) (fold_out-Tree (Tree → Option Test) test_step t)
    ∙ ap (list_by (items_of t)) (inside_map each_read reading test_of each_read_map (out-Tree t))
    ∙ list_inside list_by (λ xs ys. refl) test_of (out-Tree t)

-- what stands behind the first of some trees, as the code cuts it
behind : (items : List Tree) → take (length items - 1) (drop 1 items) ≡ drop 1 items
behind items = take_all (length items - 1) (drop 1 items) (rw (length-drop 1 items) (omega arith))

at_head : (items : List Tree) (h : Tree) (text : List ℕ) → 1 ≤ length items → h ≡ get_or items 0 h → Some text ≡ atom_of h →
    list_by items (map test_of items) ≡ of_kind (kind_of text) (drop 1 items) (map test_of (drop 1 items))
at_head [] h text within is a = absurd (grind (arith, within))
at_head (x ∷ xs) h text within is a =
    let atom : atom_of x ≡ Some text = ap atom_of (sym is) ∙ sym a in
    rw atom refl

-- a list with an atom at its head
pub test_at : (t : Tree) (items : List Tree) (h : Tree) (text name : List ℕ) → items ≡ items_of t → 1 ≤ length items → h ≡ get_or items 0 h → Some name ≡ atom_of h → text ≡ name →
    test_of t ≡ of_kind (kind_of text) (take (length items - 1) (drop 1 items)) (map test_of (take (length items - 1) (drop 1 items)))
test_at t items h text name e within is a same =
    test_out t ∙ rw (behind items) (rw (sym e) (at_head items h text within is (rw same a)))

-- ---- tests of tests

each_map : (ts : List Tree) → each (λ (t : Option Test). t) (map test_of ts) ≡ each test_of ts
each_map [] = refl
each_map (t ∷ ts) = ap (λ (rest : Option (List Test)). option_and_then (λ y. option_map (λ ys. y ∷ ys) rest) (test_of t)) (each_map ts)

pub joined_is : (q : Question) (count : ℕ) (ts : List Tree) → length ts ≡ count → joined q count (map test_of ts) ≡ option_map (test_with q) (each test_of ts)
unfolding joined
joined_is q count ts many =
    let e : (length (map test_of ts) == count) ≡ true = eq-eqb (length (map test_of ts)) count (length-map ts test_of ∙ many) in
    rw e (ap (option_map (test_with q)) (each_map ts))

pub joined_not : (q : Question) (count : ℕ) (ts : List Tree) → (length ts ≡ count → ⊥) → joined q count (map test_of ts) ≡ None
unfolding joined
joined_not q count ts other =
    let e : (length (map test_of ts) == count) ≡ false = ne_eqb (length (map test_of ts)) count (λ same. other (sym (length-map ts test_of) ∙ same)) in
    rw e refl

-- ---- when a test holds

pub all_map : {X : Type 0} (f : X → Bool) (xs : List X) → list_all (λ b. b) (map f xs) ≡ list_all f xs
all_map f [] = refl
all_map f (x ∷ xs) = ap (λ (b : Bool). f x && b) (all_map f xs)

pub any_map : {X : Type 0} (f : X → Bool) (xs : List X) → list_any (λ b. b) (map f xs) ≡ list_any f xs
any_map f [] = refl
any_map f (x ∷ xs) = ap (λ (b : Bool). f x || b) (any_map f xs)

pub holds_out : (forms : List Entry) (form alternative : ℕ) (t : Test) → test_holds forms form alternative t ≡ answer forms form alternative (out-Test t).question (map (test_holds forms form alternative) (out-Test t).parts)
unfolding test_holds
holds_out forms form alternative t = fold_out-Test Bool (holds_step forms form alternative) t

module _ (forms : List Entry) (form alternative : ℕ) (t : Test) where
  -- a test, by its question
  by_question : (q : Question) → (out-Test t).question ≡ q → answer forms form alternative q (map (test_holds forms form alternative) (out-Test t).parts) ≡ test_holds forms form alternative t
  by_question q e = sym (holds_out forms form alternative t ∙ ap (λ (k : Question). answer forms form alternative k (map (test_holds forms form alternative) (out-Test t).parts)) e)

  pub asks_equal : (name : List ℕ) (values : List (List ℕ)) → (out-Test t).question ≡ question.Equal name values → has_value forms form alternative name values ≡ test_holds forms form alternative t
  asks_equal name values e = by_question (question.Equal name values) e

  pub asks_and : (parts : List Test) → (out-Test t).question ≡ question.And → parts ≡ (out-Test t).parts → list_all (test_holds forms form alternative) parts ≡ test_holds forms form alternative t
  asks_and parts e p = ap (list_all (test_holds forms form alternative)) p ∙ sym (all_map (test_holds forms form alternative) (out-Test t).parts) ∙ by_question question.And e

  pub asks_ior : (parts : List Test) → (out-Test t).question ≡ question.Ior → parts ≡ (out-Test t).parts → list_any (test_holds forms form alternative) parts ≡ test_holds forms form alternative t
  asks_ior parts e p = ap (list_any (test_holds forms form alternative)) p ∙ sym (any_map (test_holds forms form alternative) (out-Test t).parts) ∙ by_question question.Ior e

  pub asks_not : (parts : List Test) → (out-Test t).question ≡ question.Not → parts ≡ (out-Test t).parts → not (list_any (test_holds forms form alternative) parts) ≡ test_holds forms form alternative t
  asks_not parts e p = ap (λ (ts : List Test). not (list_any (test_holds forms form alternative) ts)) p ∙ ap not (sym (any_map (test_holds forms form alternative) (out-Test t).parts)) ∙ by_question question.Not e
