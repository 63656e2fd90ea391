-- Loops that make a list item by item, of what a definition says of the items that are left.
use Rattle.std.proofs.Common.{◌≡◌, ℕ, ◌+◌, ◌/◌, ◌<◌, ◌≤◌, Bool, true, false, ◌&&◌, List, [], ◌∷◌, ◌++◌, map, length, drop, get_or, sym, ap, ◌∙◌}
use Rattle.std.proofs.lemmas.List.{at_drop_more, at_drop_all, append_assoc, append-nil, map-append}
use Rattle.term_tree.specs.declared.term.Atom.{Atom}
use Rattle.term_tree.specs.Tree.{AtomTree, atoms_of}
use Rattle.term_tree.specs.View.{tree_of, atom_of}
use Rattle.term_tree.proofs.ViewLaws.{atom_of-is}
use Rattle.term_cuts.specs.term_mean.Stores.{Store}
use Rattle.term_cuts.specs.term_mean.Shifts.{divides, divides_all, quotients}
use Rattle.term_cuts.specs.term_mean.Normal.{normal, normal_atoms}

-- ---- any loop

pub made-start : {A B C : Type 0} (f : B → C) (F : List A → List C) (xs : List A) (ys : List B) → ys ≡ [] → map f ys ++ F xs ≡ F xs
made-start f F xs ys none = ap (λ l. map f l ++ F xs) none

pub made-on : {A B C : Type 0} (f : B → C) (F : List A → List C) (xs : List A) (i : ℕ) (x : A) (ys zs : List B) (y : B) → i < length xs → x ≡ get_or xs i x → zs ≡ ys ++ (y ∷ []) → F (x ∷ drop (i + 1) xs) ≡ f y ∷ F (drop (i + 1) xs) → map f ys ++ F (drop i xs) ≡ F xs → map f zs ++ F (drop (i + 1) xs) ≡ F xs
made-on f F xs i x ys zs y within is more step so_far =
    ap (λ l. map f l ++ F (drop (i + 1) xs)) more ∙
    ap (λ l. l ++ F (drop (i + 1) xs)) (map-append f ys (y ∷ [])) ∙
    append_assoc (map f ys) (f y ∷ []) (F (drop (i + 1) xs)) ∙
    ap (λ l. map f ys ++ l) (sym (at_drop_more F xs i x within ∙ ap (λ z. F (z ∷ drop (i + 1) xs)) (sym is) ∙ step)) ∙
    so_far

pub made-end : {A B C : Type 0} (f : B → C) (F : List A → List C) (xs : List A) (i : ℕ) (ys : List B) → length xs ≤ i → F [] ≡ [] → map f ys ++ F (drop i xs) ≡ F xs → map f ys ≡ F xs
made-end f F xs i ys over none so_far =
    sym (append-nil (map f ys)) ∙ ap (λ l. map f ys ++ l) (sym (at_drop_all F xs i over ∙ none)) ∙ so_far

-- ---- a test of each item

divides_all-at : (d : ℕ) (xs : List Atom) (i : ℕ) (x : Atom) → i < length xs → x ≡ get_or xs i x → (divides d x.coefficient && divides_all d (atoms_of (map atom_of (drop (i + 1) xs)))) ≡ divides_all d (atoms_of (map atom_of (drop i xs)))
divides_all-at d xs i x within is =
    let rest = divides_all d (atoms_of (map atom_of (drop (i + 1) xs))) in
    sym
    (at_drop_more (λ (ys : List Atom). divides_all d (atoms_of (map atom_of ys))) xs i x within ∙
    ap (λ (z : Atom). divides_all d (atoms_of (map atom_of (z ∷ drop (i + 1) xs)))) (sym is) ∙
    ap (λ (z : AtomTree). divides d z.0 && rest) (atom_of-is x))

pub divides_all-on : (d : ℕ) (xs : List Atom) (i : ℕ) (x : Atom) (m : Bool) → i < length xs → x ≡ get_or xs i x → true ≡ divides d x.coefficient → divides_all d (atoms_of (map atom_of (drop i xs))) ≡ m → divides_all d (atoms_of (map atom_of (drop (i + 1) xs))) ≡ m
divides_all-on d xs i x m within is does so_far =
    ap (λ b. b && divides_all d (atoms_of (map atom_of (drop (i + 1) xs)))) does ∙ divides_all-at d xs i x within is ∙ so_far

pub divides_all-not : (d : ℕ) (xs : List Atom) (i : ℕ) (x : Atom) (m : Bool) → i < length xs → x ≡ get_or xs i x → false ≡ divides d x.coefficient → divides_all d (atoms_of (map atom_of (drop i xs))) ≡ m → false ≡ m
divides_all-not d xs i x m within is not so_far =
    ap (λ b. b && divides_all d (atoms_of (map atom_of (drop (i + 1) xs)))) not ∙ divides_all-at d xs i x within is ∙ so_far

pub divides_all-end : (d : ℕ) (xs : List Atom) (i : ℕ) (m : Bool) → length xs ≤ i → divides_all d (atoms_of (map atom_of (drop i xs))) ≡ m → true ≡ m
divides_all-end d xs i m over so_far =
    sym (at_drop_all (λ (ys : List Atom). divides_all d (atoms_of (map atom_of ys))) xs i over) ∙ so_far

-- ---- the steps

pub quotients-on : (d : ℕ) (x y : Atom) (xs : List Atom) → y.coefficient ≡ x.coefficient / d → y.term ≡ x.term → quotients d (atoms_of (map atom_of (x ∷ xs))) ≡ atom_of y ∷ quotients d (atoms_of (map atom_of xs))
quotients-on d x y xs k t =
    let rest = quotients d (atoms_of (map atom_of xs)) in
    ap (λ (z : AtomTree). (z.0 / d, z.1) ∷ rest) (atom_of-is x) ∙
    ap (λ n. (n, tree_of x.term) ∷ rest) (sym k) ∙
    ap (λ u. (y.coefficient, tree_of u) ∷ rest) (sym t) ∙
    ap (λ z. z ∷ rest) (sym (atom_of-is y))

pub normal_atoms-on : (stores : List Store) (x y : Atom) (xs : List Atom) → y.coefficient ≡ x.coefficient → tree_of y.term ≡ normal stores (tree_of x.term) → normal_atoms stores (atoms_of (map atom_of (x ∷ xs))) ≡ atom_of y ∷ normal_atoms stores (atoms_of (map atom_of xs))
normal_atoms-on stores x y xs k t =
    let rest = normal_atoms stores (atoms_of (map atom_of xs)) in
    ap (λ (z : AtomTree). (z.0, normal stores z.1) ∷ rest) (atom_of-is x) ∙
    ap (λ n. (n, normal stores (tree_of x.term)) ∷ rest) (sym k) ∙
    ap (λ u. (y.coefficient, u) ∷ rest) (sym t) ∙
    ap (λ z. z ∷ rest) (sym (atom_of-is y))
