-- Heads from which one tree grows are the heads of that tree.
use Rattle.std.proofs.Common.{◌≡◌, ℕ, List, [], ◌∷◌, ◌++◌, take, drop, length, refl, sym, ap, ◌∙◌, append_assoc}
use Rattle.std.specs.Prelude.{reverse, IsTrue}
use Rattle.std.proofs.lemmas.Bool.{eqb-true}
use Rattle.std.proofs.lemmas.List.{append-nil, reverse-append, take-append-drop}
use Rattle.std.proofs.lemmas.Grind.{flat_map-append}
use Rattle.c_cond.specs.c_words.declared.head.CondHead.{CondHead}
use Rattle.c_cond.specs.declared.tree.Tree.{Tree}
use Rattle.c_cond.specs.Tree.{node, heads_of, size_of, grown, first_or_nothing, tree_of}
use Rattle.plain_held.specs.declared.row.Word.{Word}
use Rattle.plain_held.specs.Rows.{heads_in, condition_of, is_whole}
use Rattle.c_cond.proofs.Growth.{heads_of_all, heads_of-node}

-- the heads of trees, the last tree first
abbrev all_heads : List Tree → List CondHead
all_heads trees = heads_of_all (reverse trees)

all_heads-append : (xs ys : List Tree) → all_heads (xs ++ ys) ≡ all_heads ys ++ all_heads xs
all_heads-append xs ys = ap heads_of_all (reverse-append xs ys) ∙ flat_map-append heads_of (reverse ys) (reverse xs)

all_heads-one : (t : Tree) → all_heads (t ∷ []) ≡ heads_of t
all_heads-one t = append-nil (heads_of t)

all_heads-cons : (t : Tree) (trees : List Tree) → all_heads (t ∷ trees) ≡ all_heads trees ++ heads_of t
all_heads-cons t trees = all_heads-append (t ∷ []) trees ∙ ap (λ hs. all_heads trees ++ hs) (all_heads-one t)

-- a head behind the last trees adds itself
one_more : (trees : List Tree) (h : CondHead) (n : ℕ) → all_heads (node h (reverse (take n trees)) ∷ drop n trees) ≡ all_heads trees ++ h ∷ []
one_more trees h n =
    all_heads-cons (node h (reverse (take n trees))) (drop n trees)
    ∙ ap (λ hs. all_heads (drop n trees) ++ hs) (heads_of-node h (reverse (take n trees)))
    ∙ sym (append_assoc (all_heads (drop n trees)) (all_heads (take n trees)) (h ∷ []))
    ∙ ap (λ hs. hs ++ h ∷ []) (sym (all_heads-append (take n trees) (drop n trees)) ∙ ap all_heads (take-append-drop n trees))

grown_heads : (trees : List Tree) (hs : List CondHead) → all_heads (grown trees hs) ≡ all_heads trees ++ hs
grown_heads trees [] = sym (append-nil (all_heads trees))
grown_heads trees (h ∷ hs) =
    grown_heads (node h (reverse (take (size_of h) trees)) ∷ drop (size_of h) trees) hs
    ∙ ap (λ x. x ++ hs) (one_more trees h (size_of h))
    ∙ append_assoc (all_heads trees) (h ∷ []) hs

lone : (trees : List Tree) (hs : List CondHead) → grown [] hs ≡ trees → length trees ≡ 1 → heads_of (tree_of hs) ≡ hs
lone [] hs is one = cc
lone (t ∷ []) hs is one =
    ap heads_of (ap first_or_nothing is) ∙ sym (all_heads-one t) ∙ ap all_heads (sym is) ∙ grown_heads [] hs
lone (t ∷ (u ∷ trees)) hs is one = cc

-- where one tree grows from heads, they are its own
pub whole_heads : (hs : List CondHead) → length (grown [] hs) ≡ 1 → heads_of (tree_of hs) ≡ hs
whole_heads hs one = lone (grown [] hs) hs refl one

pub words_whole : (words : List Word) → IsTrue (is_whole words) → heads_of (condition_of words) ≡ heads_in words
words_whole words whole = whole_heads (heads_in words) (eqb-true (length (grown [] (heads_in words))) 1 whole)
