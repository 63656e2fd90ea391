-- What trees give one after the other: what is read so far, and what the rest gives.
use Rattle.std.proofs.Common.{◌≡◌, ℕ, suc, ◌+◌, ◌<◌, List, [], ◌∷◌, ◌++◌, length, drop, get_or, refl, sym, ap, subst, ◌∙◌, append_assoc, add-one}
use Rattle.std.proofs.lemmas.List.{append-nil}
use Rattle.std.proofs.Math.Seq.{drop-cons}
use Rattle.rtx_tree.specs.declared.place.Place.{Place}
use Rattle.lisp_read.specs.declared.tree.Tree.{Tree}
use Rattle.lisp_read.specs.Parsed.{Parsed, stands, construct, parsed_map, parsed_then}
use Rattle.rtl_read.specs.Chain.{each_joined}
use Rattle.rtl_read.specs.machine.Adding.{behind}

pub first_left : (trees : List Tree) (i : ℕ) (t : Tree) → i < length trees → t ≡ get_or trees i t → drop i trees ≡ t ∷ drop (i + 1) trees
first_left trees i t within is =
    let lt : i < length trees = within in
    let cons : drop i trees ≡ get_or trees i t ∷ drop (suc i) trees = drop-cons trees i t lt in
    rw add-one (cons ∙ ap (λ (u : Tree). u ∷ drop (suc i) trees) (sym is))

behind-map : {A : Type 0} (before xs : List A) (p : Parsed (List A)) → behind before (parsed_map (λ ys. xs ++ ys) p) ≡ behind (before ++ xs) p
behind-map {A = A} before xs (stands ys) = ap (λ (zs : List A). stands zs) (sym (append_assoc before xs ys))
behind-map before xs (construct place name) = refl

list_in : {A : Type 0} → List A → Parsed (List A) → List A
list_in other (stands xs) = xs
list_in other (construct place name) = other

is_stood : {A : Type 0} → Parsed A → Type 0
is_stood (stands x) = Unit {0}
is_stood (construct place name) = ⊥

then_joined : {A : Type 0} (before after : List A) (p rest : Parsed (List A)) → behind before p ≡ stands after →
    behind before (parsed_then p (λ xs. parsed_map (λ ys. xs ++ ys) rest)) ≡ behind after rest
unfolding list_in is_stood
then_joined before after (stands xs) rest e = behind-map before xs rest ∙ ap (λ front. behind front rest) (ap (list_in []) e)
then_joined before after (construct place name) rest e = absurd (subst is_stood (sym e) tt)

-- one tree more was read
pub joined_next : {A : Type 0} (read : Tree → Parsed (List A)) (before after : List A) (trees : List Tree) (i : ℕ) (t : Tree) (whole : Parsed (List A)) →
    i < length trees → t ≡ get_or trees i t → behind before (read t) ≡ stands after → behind before (each_joined read (drop i trees)) ≡ whole → behind after (each_joined read (drop (i + 1) trees)) ≡ whole
joined_next read before after trees i t whole within is e h =
    sym (then_joined before after (read t) (each_joined read (drop (i + 1) trees)) e) ∙ subst (λ (ts : List Tree). behind before (each_joined read ts) ≡ whole) (first_left trees i t within is) h

stop : {A : Type 0} (read : Tree → Parsed (List A)) (before : List A) (t : Tree) (rest : List Tree) (place : Place) (name : List ℕ) → read t ≡ construct place name → behind before (each_joined read (t ∷ rest)) ≡ construct place name
stop read before t rest place name e = rw e refl

construct_behind : {A : Type 0} (before : List A) (p : Parsed (List A)) (place : Place) (name : List ℕ) → behind before p ≡ construct place name → p ≡ construct place name
unfolding is_stood
construct_behind before (stands xs) place name e = absurd (subst is_stood e tt)
construct_behind before (construct p n) place name e = e

-- a tree was outside
pub joined_stops : {A : Type 0} (read : Tree → Parsed (List A)) (before initial : List A) (trees : List Tree) (i : ℕ) (t : Tree) (place : Place) (name : List ℕ) (whole : Parsed (List A)) →
    i < length trees → t ≡ get_or trees i t → read t ≡ construct place name → behind before (each_joined read (drop i trees)) ≡ behind initial whole → whole ≡ construct place name
joined_stops read before initial trees i t place name whole within is e h =
    construct_behind initial whole place name
    (sym h ∙ subst (λ (ts : List Tree). behind before (each_joined read ts) ≡ construct place name) (sym (first_left trees i t within is)) (stop read before t (drop (i + 1) trees) place name e))

-- all were read
pub joined_ends : {A : Type 0} (read : Tree → Parsed (List A)) (after : List A) (whole : Parsed (List A)) → behind after (each_joined read []) ≡ whole → whole ≡ stands after
joined_ends {A = A} read after whole h = sym h ∙ ap (λ (xs : List A). stands xs) (append-nil after)
