-- Items in an order: one place more.
use Rattle.std.proofs.Common.{◌≡◌, ℕ, ◌+◌, ◌<◌, ◌≤◌, List, [], ◌∷◌, ◌++◌, map, take, length, get_or, refl, sym, ap, ◌∙◌, arith}
use Rattle.std.proofs.lemmas.List.{take_more, take_all, get_or_default}
use Rattle.law_order.specs.Ordered.{in_order}

mapped_push : {A B : Type 0} (f : A → B) (xs : List A) (x : A) → map f (xs ++ x ∷ []) ≡ map f xs ++ f x ∷ []
mapped_push f [] x = refl
mapped_push f (y ∷ xs) x = ap (λ ys. f y ∷ ys) (mapped_push f xs x)

pub order_none : {A : Type 0} (items : List A) → in_order items [] ≡ []
order_none [] = refl
order_none (x ∷ xs) = refl

pub order_more : {A : Type 0} (items : List A) (order : List ℕ) (k place : ℕ) (x : A) → k < length order → place ≡ get_or order k 0 → place < length items → x ≡ get_or items place x → in_order items (take (k + 1) order) ≡ in_order items (take k order) ++ x ∷ []
order_more [] order k place x within is in_items at = absurd (omega arith)
order_more {A} (y ∷ ys) order k place x within is in_items at =
    let f : ℕ → A = λ p. get_or (y ∷ ys) p y in
    let front : take (k + 1) order ≡ take k order ++ place ∷ [] = take_more order k 0 within ∙ ap (λ (p : ℕ). take k order ++ p ∷ []) (sym is) in
    let item : f place ≡ x = get_or_default (y ∷ ys) place y x in_items ∙ sym at in
    ap (map f) front ∙ (mapped_push f (take k order) place ∙ ap (λ (z : A). map f (take k order) ++ z ∷ []) item)

pub order_all : {A : Type 0} (items : List A) (order : List ℕ) (k : ℕ) → length order ≤ k → in_order items (take k order) ≡ in_order items order
order_all items order k end = ap (in_order items) (take_all k order end)
