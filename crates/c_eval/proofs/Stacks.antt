-- The trees that heads are, head by head.
use Rattle.std.proofs.Common.{◌≡◌, ℕ, zero, suc, ◌+◌, ◌-◌, ◌<◌, ◌≤◌, List, [], ◌∷◌, ◌++◌, length, take, drop, get_or, refl, sym, ap, ◌∙◌, arith, length-drop}
use Rattle.std.specs.Prelude.{reverse}
use Rattle.std.proofs.lemmas.List.{take_more, drop-drop, get_or_default}
use Rattle.c_cond.specs.c_words.declared.head.CondHead.{CondHead}
use Rattle.c_cond.specs.declared.tree.Tree.{Tree}
use Rattle.c_cond.specs.Tree.{node, size_of, grown}
use Rattle.c_eval.specs.machine.Places.{trees_at, count_at}

-- the trees with one head more
abbrev pub with_head : CondHead → List Tree → List Tree
with_head h trees = node h (reverse (take (size_of h) trees)) ∷ drop (size_of h) trees

grown_push : (trees : List Tree) (hs : List CondHead) (h : CondHead) → grown trees (hs ++ h ∷ []) ≡ with_head h (grown trees hs)
grown_push trees [] h = refl
grown_push trees (x ∷ hs) h = grown_push (with_head x trees) hs h

pub trees_more : (heads : List CondHead) (i : ℕ) (h : CondHead) → i < length heads → h ≡ get_or heads i h → trees_at heads (i + 1) ≡ with_head h (trees_at heads i)
trees_more heads i h within is =
    ap (grown []) (take_more heads i h within ∙ ap (λ (x : CondHead). take i heads ++ x ∷ []) (sym is)) ∙ grown_push [] (take i heads) h

pub count_more : (heads : List CondHead) (i : ℕ) (h : CondHead) → i < length heads → h ≡ get_or heads i h → count_at heads (i + 1) ≡ suc (count_at heads i - size_of h)
count_more heads i h within is =
    ap length (trees_more heads i h within is) ∙ ap suc (length-drop (size_of h) (trees_at heads i))

-- one head or more are one tree or more
pub some_trees : (heads : List CondHead) (i : ℕ) → 0 < i → i ≤ length heads → 0 < count_at heads i
some_trees heads zero some within = omega arith
some_trees [] (suc i) some within = omega arith
some_trees (first ∷ heads) (suc i) some within =
    let all : List CondHead = first ∷ heads in
    let less : i < length all = omega arith in
    let is : get_or all i first ≡ get_or all i (get_or all i first) = get_or_default all i first (get_or all i first) less in
    let more : count_at all (i + 1) ≡ suc (count_at all i - size_of (get_or all i first)) = count_more all i (get_or all i first) less is in
    let next : i + 1 ≡ suc i = omega arith in
    let same : count_at all (i + 1) ≡ count_at all (suc i) = ap (count_at all) next in
    omega arith

drop_drop : (m n k : ℕ) (trees : List Tree) → n + m ≡ k → drop m (drop n trees) ≡ drop k trees
drop_drop m n k trees e = drop-drop m n trees ∙ ap (λ (x : ℕ). drop x trees) e

-- so many trees fewer, one head back
pub drop_more : (heads : List CondHead) (i missing next : ℕ) (h : CondHead) → i < length heads → h ≡ get_or heads i h → next + 1 ≡ missing + size_of h → 0 < missing → drop missing (trees_at heads (i + 1)) ≡ drop next (trees_at heads i)
drop_more heads i zero next h within is e some = absurd (omega (arith, some))
drop_more heads i (suc missing) next h within is e some =
    ap (drop (suc missing)) (trees_more heads i h within is) ∙ drop_drop missing (size_of h) next (trees_at heads i) (omega arith)
