-- Reading the parts of an expression one after the other: what is read so far, and what the rest gives.
use Rattle.std.proofs.Common.{◌≡◌, ℕ, suc, ◌+◌, ◌<◌, List, [], ◌∷◌, ◌++◌, length, drop, map, get_or, refl, sym, ap, subst, ◌∙◌, add-one, arith}
use Rattle.std.proofs.Math.Seq.{drop-cons}
use Rattle.std.proofs.lemmas.List.{get_or-map, length-map}
use Rattle.rtx_tree.specs.declared.place.Place.{Place}
use Rattle.rtx_tree.specs.declared.tree.Rtx.{Rtx}
use Rattle.lisp_read.specs.declared.tree.Tree.{Tree}
use Rattle.lisp_read.specs.declared.position.Position.{Position}
use Rattle.lisp_read.specs.declared.position.Position.TheVariants.{Top}
use Rattle.lisp_read.specs.Parsed.{Parsed, stands, construct, parsed_map, parsed_then}
use Rattle.lisp_read.specs.Expression.{Meaning, meaning_of, each_at, read_at}
use Rattle.lisp_read.proofs.Each.{with_front, with_front-map}

-- the first of the parts that are left, and the rest
first_left : (items : List Tree) (k : ℕ) (t : Tree) → k < length items → t ≡ get_or items k t → drop k (map meaning_of items) ≡ meaning_of t ∷ drop (k + 1) (map meaning_of items)
first_left items k t within is =
    let lt : k < length (map meaning_of items) = rw (length-map items meaning_of) within in
    let cons : drop k (map meaning_of items) ≡ get_or (map meaning_of items) k (meaning_of t) ∷ drop (suc k) (map meaning_of items) = drop-cons (map meaning_of items) k (meaning_of t) lt in
    let here : get_or (map meaning_of items) k (meaning_of t) ≡ meaning_of t = get_or-map meaning_of items k t (meaning_of t) within ∙ ap meaning_of (sym is) in
    rw add-one (cons ∙ ap (λ (m : Meaning). m ∷ drop (suc k) (map meaning_of items)) here)

position_left : (ps : List Position) (i : ℕ) → i < length ps → drop i ps ≡ get_or ps i Top ∷ drop (i + 1) ps
position_left ps i within = rw add-one (drop-cons ps i Top within)

step : (ps : List Position) (items : List Tree) (i : ℕ) (t : Tree) → i < length ps → 1 + i < length items → t ≡ get_or items (1 + i) t →
    each_at (drop i ps) (drop (1 + i) (map meaning_of items))
    ≡ parsed_then (read_at (get_or ps i Top) t) (λ y. parsed_map (λ ys. y ∷ ys) (each_at (drop (i + 1) ps) (drop (1 + i + 1) (map meaning_of items))))
step ps items i t fits within is = rw (position_left ps i fits) (rw (first_left items (1 + i) t within is) refl)

-- one part more was read
pub part_next : (front : List Rtx) (ps : List Position) (items : List Tree) (i : ℕ) (t : Tree) (x : Rtx) (whole : Parsed (List Rtx)) →
    i < length ps → 1 + i < length items → t ≡ get_or items (1 + i) t → read_at (get_or ps i Top) t ≡ stands x →
    with_front front (each_at (drop i ps) (drop (1 + i) (map meaning_of items))) ≡ whole →
    with_front (front ++ x ∷ []) (each_at (drop (i + 1) ps) (drop (1 + (i + 1)) (map meaning_of items))) ≡ whole
part_next front ps items i t x whole fits within is e h =
    let rest : Parsed (List Rtx) = each_at (drop (i + 1) ps) (drop (1 + i + 1) (map meaning_of items)) in
    let one : each_at (drop i ps) (drop (1 + i) (map meaning_of items)) ≡ parsed_map (λ ys. x ∷ ys) rest = step ps items i t fits within is ∙ rw e refl in
    let moved : with_front (front ++ x ∷ []) rest ≡ whole = sym (with_front-map front x rest) ∙ (sym (ap (with_front front) one) ∙ h) in
    let same : 1 + i + 1 ≡ 1 + (i + 1) = omega arith in
    subst (λ (k : ℕ). with_front (front ++ x ∷ []) (each_at (drop (i + 1) ps) (drop k (map meaning_of items))) ≡ whole) same moved

-- a part was outside
pub part_stops : (front : List Rtx) (ps : List Position) (items : List Tree) (i : ℕ) (t : Tree) (place : Place) (name : List ℕ) (whole : Parsed (List Rtx)) →
    i < length ps → 1 + i < length items → t ≡ get_or items (1 + i) t → read_at (get_or ps i Top) t ≡ construct place name →
    with_front front (each_at (drop i ps) (drop (1 + i) (map meaning_of items))) ≡ whole → whole ≡ construct place name
part_stops front ps items i t place name whole fits within is e h =
    let rest : Parsed (List Rtx) = each_at (drop (i + 1) ps) (drop (1 + i + 1) (map meaning_of items)) in
    let one : each_at (drop i ps) (drop (1 + i) (map meaning_of items)) ≡ construct place name = step ps items i t fits within is ∙ rw e refl in
    sym h ∙ ap (with_front front) one
