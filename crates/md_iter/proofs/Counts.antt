-- The choices of values in order: how many there are, and which one stands at a place.
use Rattle.std.proofs.Common.{◌≡◌, inl, inr, ℕ, zero, suc, ◌+◌, ◌*◌, ◌<◌, ◌≤◌, List, [], ◌∷◌, ◌++◌, map, length, drop, get_or, min, refl, sym, ap, ◌∙◌, arith}
use Rattle.std.specs.List.{flat_map}
use Rattle.std.proofs.lemmas.Bool.{cases_lt}
use Rattle.std.proofs.lemmas.List.{at_drop_more, at_drop_all}
use Rattle.std.specs.Borrow.{Bor}
use Rattle.md_iter.specs.declared.definition.Value.{Value}
use Rattle.md_iter.specs.declared.definition.FormIterator.{FormIterator}
use Rattle.md_iter.specs.Choice.{Chosen, with_value, choices, choice_count, lent}

-- ---- how many

pub length_map : {A B : Type 0} (f : A → B) (xs : List A) → length (map f xs) ≡ length xs
length_map f [] = refl
length_map f (x ∷ xs) = ap suc (length_map f xs)

length_append : {A : Type 0} (xs ys : List A) → length (xs ++ ys) ≡ length xs + length ys
length_append [] ys = omega arith
length_append (x ∷ xs) ys = let h : length (xs ++ ys) ≡ length xs + length ys = length_append xs ys in omega (arith, h)

one_more : (n k : ℕ) → k + n * k ≡ suc n * k
one_more n k = grind arith

length_values : (i : FormIterator) (rest : List (List Chosen)) (vs : List Value) → length (flat_map (with_value i rest) vs) ≡ length vs * length rest
length_values i rest [] = grind arith
length_values i rest (v ∷ vs) =
    length_append (with_value i rest v) (flat_map (with_value i rest) vs)
    ∙ ap (λ k. k + length (flat_map (with_value i rest) vs)) (length_map (λ choice. record { iterator = i; value = v } ∷ choice) rest)
    ∙ ap (λ k. length rest + k) (length_values i rest vs)
    ∙ one_more (length vs) (length rest)

pub length_choices : (is : List FormIterator) → length (choices is) ≡ choice_count is
length_choices [] = refl
length_choices (i ∷ is) = length_values i (choices is) i.values ∙ ap (λ k. length i.values * k) (length_choices is)

-- ---- products that stop at a greatest number

grows : (a c m : ℕ) → m ≤ a → m ≤ a * suc c
grows a c m h = grind arith

pub min_product : (m a c : ℕ) → min (min a m * c) m ≡ min (a * c) m
min_product m a zero = grind arith
min_product m a (suc c) = elim (cases_lt a m) [
  | inl h ↦ ap (λ k. min (k * suc c) m) (omega arith)
  | inr h ↦ (let low : min a m ≡ m = omega arith in let p : m ≤ m * suc c = grows m c m (omega arith) in let q : m ≤ a * suc c = grows a c m h in ap (λ k. min (k * suc c) m) low ∙ omega arith)
]

pub at : {A : Type 0} (read : List FormIterator → A) (used : List (Bor FormIterator)) (i : ℕ) (x : Bor FormIterator) → i < length used → x ≡ get_or used i x → read (lent (drop i used)) ≡ read (x.now ∷ lent (drop (i + 1) used))
at read used i x within is = at_drop_more (λ xs. read (lent xs)) used i x within ∙ ap (λ (y : Bor FormIterator). read (y.now ∷ lent (drop (i + 1) used))) (sym is)

product : (a b c : ℕ) → a * (b * c) ≡ a * b * c
product a b c = grind arith

-- the count is multiplied by that of one iterator more
pub count_next : (m : ℕ) (used : List (Bor FormIterator)) (i : ℕ) (x : Bor FormIterator) (count new whole : ℕ) → i < length used → x ≡ get_or used i x → new ≡ min (count * length x.now.values) m →
    min (count * choice_count (lent (drop i used))) m ≡ whole → min (new * choice_count (lent (drop (i + 1) used))) m ≡ whole
count_next m used i x count new whole within is e h =
    ap (λ k. min (k * choice_count (lent (drop (i + 1) used))) m) e
    ∙ min_product m (count * length x.now.values) (choice_count (lent (drop (i + 1) used)))
    ∙ ap (λ k. min k m) (sym (product count (length x.now.values) (choice_count (lent (drop (i + 1) used)))))
    ∙ sym (at (λ (is : List FormIterator). min (count * choice_count is) m) used i x within is)
    ∙ h

one_times : (m count whole : ℕ) → count ≤ m → min (count * 1) m ≡ whole → count ≡ whole
one_times m count whole fits h = omega (arith, h)

-- no iterator is left
pub count_ends : (m : ℕ) (used : List (Bor FormIterator)) (i count whole : ℕ) → count ≤ m → length used ≤ i → min (count * choice_count (lent (drop i used))) m ≡ whole → count ≡ whole
count_ends m used i count whole fits end h =
    one_times m count whole fits (sym (at_drop_all (λ xs. min (count * choice_count (lent xs)) m) used i end) ∙ h)
