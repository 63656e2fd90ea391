-- Reading the trees that are kept one after the other.
use Rattle.std.proofs.Common.{◌≡◌, ℕ, ◌+◌, ◌<◌, true, false, List, [], ◌∷◌, ◌++◌, length, drop, get_or, refl, sym, ap, subst, ◌∙◌}
use Rattle.std.specs.Prelude.{filter}
use Rattle.rtx_tree.specs.declared.place.Place.{Place}
use Rattle.rtx_tree.specs.declared.tree.Rtx.{Rtx}
use Rattle.lisp_read.specs.declared.tree.Tree.{Tree}
use Rattle.lisp_read.specs.declared.position.Position.TheVariants.{Pattern}
use Rattle.lisp_read.specs.Parsed.{Parsed, stands, construct, each_parsed}
use Rattle.lisp_read.specs.Expression.{read_at}
use Rattle.lisp_read.proofs.Each.{with_front, with_front-map}
use Rattle.rtl_read.specs.Call.{is_dropped, is_kept}
use Rattle.rtl_read.proofs.Joined.{first_left}

abbrev pub kept_patterns : List Tree → Parsed (List Rtx)
kept_patterns trees = each_parsed (read_at Pattern) (filter is_kept trees)

dropped_first : (t : Tree) (rest : List Tree) → is_dropped t ≡ true → kept_patterns (t ∷ rest) ≡ kept_patterns rest
dropped_first t rest e = rw e refl

read_first : (front : List Rtx) (t : Tree) (rest : List Tree) (x : Rtx) → is_dropped t ≡ false → read_at Pattern t ≡ stands x → with_front front (kept_patterns (t ∷ rest)) ≡ with_front (front ++ x ∷ []) (kept_patterns rest)
read_first front t rest x kept e = rw kept (rw e (with_front-map front x (kept_patterns rest)))

outside_first : (front : List Rtx) (t : Tree) (rest : List Tree) (place : Place) (name : List ℕ) → is_dropped t ≡ false → read_at Pattern t ≡ construct place name → with_front front (kept_patterns (t ∷ rest)) ≡ construct place name
outside_first front t rest place name kept e = rw kept (rw e refl)

-- a tree was dropped
pub kept_drops : (front : List Rtx) (trees : List Tree) (i : ℕ) (t : Tree) (whole : Parsed (List Rtx)) →
    i < length trees → t ≡ get_or trees i t → is_dropped t ≡ true → with_front front (kept_patterns (drop i trees)) ≡ whole → with_front front (kept_patterns (drop (i + 1) trees)) ≡ whole
kept_drops front trees i t whole within is dropped h =
    ap (with_front front) (sym (dropped_first t (drop (i + 1) trees) dropped)) ∙ subst (λ (ts : List Tree). with_front front (kept_patterns ts) ≡ whole) (first_left trees i t within is) h

-- a tree was read
pub kept_next : (front : List Rtx) (trees : List Tree) (i : ℕ) (t : Tree) (x : Rtx) (whole : Parsed (List Rtx)) →
    i < length trees → t ≡ get_or trees i t → is_dropped t ≡ false → read_at Pattern t ≡ stands x → with_front front (kept_patterns (drop i trees)) ≡ whole → with_front (front ++ x ∷ []) (kept_patterns (drop (i + 1) trees)) ≡ whole
kept_next front trees i t x whole within is kept e h =
    sym (read_first front t (drop (i + 1) trees) x kept e) ∙ subst (λ (ts : List Tree). with_front front (kept_patterns ts) ≡ whole) (first_left trees i t within is) h

-- a tree was outside
pub kept_stops : (front : List Rtx) (trees : List Tree) (i : ℕ) (t : Tree) (place : Place) (name : List ℕ) (whole : Parsed (List Rtx)) →
    i < length trees → t ≡ get_or trees i t → is_dropped t ≡ false → read_at Pattern t ≡ construct place name → with_front front (kept_patterns (drop i trees)) ≡ whole → whole ≡ construct place name
kept_stops front trees i t place name whole within is kept e h =
    sym h ∙ subst (λ (ts : List Tree). with_front front (kept_patterns ts) ≡ construct place name) (sym (first_left trees i t within is)) (outside_first front t (drop (i + 1) trees) place name kept e)

-- all were looked at
pub kept_ends : (front : List Rtx) (whole : Parsed (List Rtx)) → with_front front (kept_patterns []) ≡ whole → whole ≡ with_front front (kept_patterns [])
kept_ends front whole h = sym h
