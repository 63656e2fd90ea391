-- The readings of trees as lists.
use Rattle.std.proofs.Common.{◌≡◌, ℕ, zero, suc, ◌+◌, ◌≤◌, List, [], ◌∷◌, ◌++◌, length, map, take, drop, refl, sym, ap, ◌∙◌, add-one, arith, length-drop}
use Rattle.std.specs.Prelude.{reverse}
use Rattle.std.proofs.lemmas.List.{map-append, reverse-append, take_all, drop_all}
use Rattle.c_cond.specs.c_words.declared.head.CondHead.{CondHead}
use Rattle.c_cond.specs.c_words.declared.head.CondHead.TheVariants as head
use Rattle.c_cond.specs.declared.tree.Tree.{Tree}
use Rattle.c_cond.specs.declared.tree.Tree.TheFolds.{fold-roll-Tree}
use Rattle.c_cond.specs.Tree.{tree_of}
use Rattle.c_eval.specs.declared.reading.Reading.{Reading}
use Rattle.c_eval.specs.Fold.{fold_by, fold_step}

-- the readings of so many trees, the last of which stands first
abbrev pub readings_of : (CondHead → List Reading → Reading) → ℕ → List Tree → List Reading
readings_of read n trees = reverse (map (fold_by read) (take n trees))

take_one_more : (n : ℕ) (t : Tree) (trees others : List Tree) → drop n trees ≡ t ∷ others → take (suc n) trees ≡ take n trees ++ t ∷ []
take_one_more zero t [] others e = absurd (omega (arith, ap length e))
take_one_more zero t (x ∷ xs) others e = ap (λ (ts : List Tree). take 1 ts) e
take_one_more (suc n) t [] others e = absurd (omega (arith, ap length e))
take_one_more (suc n) t (x ∷ xs) others e = ap (λ (ts : List Tree). x ∷ ts) (take_one_more n t xs others e)

pub reads_one_more : (read : CondHead → List Reading → Reading) (n : ℕ) (t : Tree) (trees others : List Tree) → drop n trees ≡ t ∷ others → readings_of read (n + 1) trees ≡ fold_by read t ∷ readings_of read n trees
reads_one_more read n t trees others e =
    ap (λ (ts : List Tree). reverse (map (fold_by read) ts)) (ap (λ (m : ℕ). take m trees) (add-one n) ∙ take_one_more n t trees others e)
    ∙ (ap reverse (map-append (fold_by read) (take n trees) (t ∷ [])) ∙ reverse-append (map (fold_by read) (take n trees)) (fold_by read t ∷ []))

pub map_reverse : (f : Tree → Reading) (ts : List Tree) → map f (reverse ts) ≡ reverse (map f ts)
map_reverse f [] = refl
map_reverse f (t ∷ ts) =
    ap (map f) (reverse-append (t ∷ []) ts)
    ∙ (map-append f (reverse ts) (t ∷ []) ∙ (ap (λ (rs : List Reading). rs ++ f t ∷ []) (map_reverse f ts) ∙ sym (reverse-append (f t ∷ []) (map f ts))))

-- where no trees are left, so many are all
pub takes_all : (n m : ℕ) (trees : List Tree) → drop n trees ≡ [] → n ≤ m → (take m trees ≡ take n trees) × (drop m trees ≡ [])
takes_all n m trees none le =
    let short : length trees ≤ n = omega (arith, ap length none, length-drop n trees) in
    (take_all m trees (omega arith) ∙ sym (take_all n trees short), drop_all m trees (omega arith))

-- no heads are read as nothing
pub nothing_read : (read : CondHead → List Reading → Reading) (heads : List CondHead) → length heads ≡ 0 → read head.Nothing [] ≡ fold_by read (tree_of heads)
nothing_read read [] none = sym (fold-roll-Tree Reading (fold_step read) (record { head = head.Nothing; parts = [] }))
nothing_read read (h ∷ hs) none = absurd (omega (arith, none))
