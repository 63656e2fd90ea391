-- Reading some trees one after the other, all of which have to be read: what is read so far, and what the rest gives.
use Rattle.std.proofs.Common.{◌≡◌, ℕ, ◌+◌, ◌<◌, List, [], ◌∷◌, ◌++◌, Option, Some, None, option_map, length, drop, get_or, refl, sym, ap, ◌∙◌, append_assoc}
use Rattle.std.proofs.lemmas.List.{append-nil, at_drop_more}
use Rattle.lisp_read.specs.declared.tree.Tree.{Tree}
use Rattle.md_iter.specs.Definition.{each_of}

-- what is read with these in front
abbrev pub with_front : {A : Type 0} → List A → Option (List A) → Option (List A)
with_front front (Some xs) = Some (front ++ xs)
with_front front None = None

with_front-cons : {A : Type 0} (front : List A) (x : A) (p : Option (List A)) → with_front front (option_map (λ xs. x ∷ xs) p) ≡ with_front (front ++ x ∷ []) p
with_front-cons {A = A} front x (Some xs) = ap (λ (ys : List A). Some ys) (sym (append_assoc front (x ∷ []) xs))
with_front-cons front x None = refl

pub with_nothing : {A : Type 0} (p : Option (List A)) → with_front [] p ≡ p
with_nothing (Some xs) = refl
with_nothing None = refl

next : {A : Type 0} (read : Tree → Option A) (front : List A) (t : Tree) (rest : List Tree) (x : A) → read t ≡ Some x → with_front front (each_of read (t ∷ rest)) ≡ with_front (front ++ x ∷ []) (each_of read rest)
next read front t rest x e = rw e (with_front-cons front x (each_of read rest))

stop : {A : Type 0} (read : Tree → Option A) (front : List A) (t : Tree) (rest : List Tree) → read t ≡ None → with_front front (each_of read (t ∷ rest)) ≡ None
stop read front t rest e = rw e refl

at : {A : Type 0} (read : Tree → Option A) (front : List A) (trees : List Tree) (i : ℕ) (t : Tree) → i < length trees → t ≡ get_or trees i t → with_front front (each_of read (drop i trees)) ≡ with_front front (each_of read (t ∷ drop (i + 1) trees))
at read front trees i t within is =
    at_drop_more (λ ts. with_front front (each_of read ts)) trees i t within ∙ ap (λ (u : Tree). with_front front (each_of read (u ∷ drop (i + 1) trees))) (sym is)

-- one tree more was read
pub each_next : {A : Type 0} (read : Tree → Option A) (front : List A) (trees : List Tree) (i : ℕ) (t : Tree) (x : A) (whole : Option (List A)) →
    i < length trees → t ≡ get_or trees i t → read t ≡ Some x → with_front front (each_of read (drop i trees)) ≡ whole → with_front (front ++ x ∷ []) (each_of read (drop (i + 1) trees)) ≡ whole
each_next read front trees i t x whole within is e h = sym (at read front trees i t within is ∙ next read front t (drop (i + 1) trees) x e) ∙ h

-- a tree was of another kind
pub each_stops : {A : Type 0} (read : Tree → Option A) (front : List A) (trees : List Tree) (i : ℕ) (t : Tree) (whole : Option (List A)) →
    i < length trees → t ≡ get_or trees i t → read t ≡ None → with_front front (each_of read (drop i trees)) ≡ whole → whole ≡ None
each_stops read front trees i t whole within is e h = sym h ∙ at read front trees i t within is ∙ stop read front t (drop (i + 1) trees) e

-- all were read
pub each_ends : {A : Type 0} (read : Tree → Option A) (front : List A) (whole : Option (List A)) → with_front front (each_of read []) ≡ whole → whole ≡ Some front
each_ends {A = A} read front whole h = sym h ∙ ap (λ (xs : List A). Some xs) (append-nil front)
