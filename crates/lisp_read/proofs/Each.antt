-- Reading some trees one after the other: what is read so far, and what the rest gives.
use Rattle.std.proofs.Common.{◌≡◌, ℕ, suc, ◌+◌, ◌<◌, List, [], ◌∷◌, ◌++◌, length, drop, get_or, refl, sym, ap, subst, ◌∙◌, append_assoc, add-one}
use Rattle.std.proofs.lemmas.List.{append-nil}
use Rattle.std.proofs.Math.Seq.{drop-cons}
use Rattle.rtx_tree.specs.declared.place.Place.{Place}
use Rattle.lisp_read.specs.declared.tree.Tree.{Tree}
use Rattle.lisp_read.specs.Parsed.{Parsed, stands, construct, parsed_map, each_parsed}

-- what is read with these in front
abbrev pub with_front : {A : Type 0} → List A → Parsed (List A) → Parsed (List A)
with_front front (stands xs) = stands (front ++ xs)
with_front front (construct place name) = construct place name

pub with_front-map : {A : Type 0} (front : List A) (x : A) (p : Parsed (List A)) → with_front front (parsed_map (λ xs. x ∷ xs) p) ≡ with_front (front ++ x ∷ []) p
with_front-map {A = A} front x (stands xs) = ap (λ (ys : List A). stands ys) (sym (append_assoc front (x ∷ []) xs))
with_front-map front x (construct place name) = refl

pub with_nothing : {A : Type 0} (p : Parsed (List A)) → with_front [] p ≡ p
with_nothing (stands xs) = refl
with_nothing (construct place name) = refl

next : {A : Type 0} (read : Tree → Parsed A) (front : List A) (t : Tree) (rest : List Tree) (x : A) → read t ≡ stands x → with_front front (each_parsed read (t ∷ rest)) ≡ with_front (front ++ x ∷ []) (each_parsed read rest)
next read front t rest x e = rw e (with_front-map front x (each_parsed read rest))

stop : {A : Type 0} (read : Tree → Parsed A) (front : List A) (t : Tree) (rest : List Tree) (place : Place) (name : List ℕ) → read t ≡ construct place name → with_front front (each_parsed read (t ∷ rest)) ≡ construct place name
stop read front t rest place name e = rw e refl

drop_at : (trees : List Tree) (i : ℕ) (t : Tree) → i < length trees → t ≡ get_or trees i t → drop i trees ≡ t ∷ drop (i + 1) trees
drop_at trees i t within is =
    let lt : i < length trees = within in
    let cons : drop i trees ≡ get_or trees i t ∷ drop (suc i) trees = drop-cons trees i t lt in
    rw add-one (cons ∙ ap (λ (u : Tree). u ∷ drop (suc i) trees) (sym is))

-- one tree more was read
pub each_next : {A : Type 0} (read : Tree → Parsed A) (front : List A) (trees : List Tree) (i : ℕ) (t : Tree) (x : A) (whole : Parsed (List A)) →
    i < length trees → t ≡ get_or trees i t → read t ≡ stands x → with_front front (each_parsed read (drop i trees)) ≡ whole → with_front (front ++ x ∷ []) (each_parsed read (drop (i + 1) trees)) ≡ whole
each_next read front trees i t x whole within is e h =
    sym (next read front t (drop (i + 1) trees) x e) ∙ subst (λ (ts : List Tree). with_front front (each_parsed read ts) ≡ whole) (drop_at trees i t within is) h

-- a tree was outside
pub each_stops : {A : Type 0} (read : Tree → Parsed A) (front : List A) (trees : List Tree) (i : ℕ) (t : Tree) (place : Place) (name : List ℕ) (whole : Parsed (List A)) →
    i < length trees → t ≡ get_or trees i t → read t ≡ construct place name → with_front front (each_parsed read (drop i trees)) ≡ whole → whole ≡ construct place name
each_stops read front trees i t place name whole within is e h =
    sym h ∙ subst (λ (ts : List Tree). with_front front (each_parsed read ts) ≡ construct place name) (sym (drop_at trees i t within is)) (stop read front t (drop (i + 1) trees) place name e)

-- all were read
pub each_ends : {A : Type 0} (read : Tree → Parsed A) (front : List A) (whole : Parsed (List A)) → with_front front (each_parsed read []) ≡ whole → whole ≡ stands front
each_ends {A = A} read front whole h = sym h ∙ ap (λ (xs : List A). stands xs) (append-nil front)
