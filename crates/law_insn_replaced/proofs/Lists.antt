-- Lists of which an element is replaced by others.
use Rattle.std.proofs.Common.{◌≡◌, ℕ, suc, ◌+◌, ◌-◌, ◌≤◌, ◌<◌, Bool, false, List, [], ◌∷◌, ◌++◌, length, take, drop, get_or, Some, refl, sym, ap, ◌∙◌, add-one, arith}
use Rattle.std.specs.Prelude.{slice_get, filter}
use Rattle.std.proofs.Math.Seq.{drop-cons}
use Rattle.std.proofs.lemmas.List.{take-append-drop, length-take-le, get_or-take, get_or_append_left}
use Rattle.std.proofs.lemmas.List.Elements.{filter-append}
use Rattle.std.proofs.lemmas.Option.{slice_get_within, get_or_from_slice_get, slice_get-get_or}

-- what stands from a place on
pub drop_here : {A : Type 0} (xs : List A) (place : ℕ) (x : A) → slice_get xs place ≡ Some x → drop place xs ≡ x ∷ drop (place + 1) xs
drop_here {A = A} xs place x at =
    let within : place < length xs = slice_get_within xs place x at in
    let cons : drop place xs ≡ get_or xs place x ∷ drop (suc place) xs = drop-cons xs place x within in
    rw add-one (cons ∙ ap (λ (u : A). u ∷ drop (suc place) xs) (get_or_from_slice_get xs place x x at))

pub parted : {A : Type 0} (xs : List A) (place : ℕ) (x : A) → slice_get xs place ≡ Some x → xs ≡ take place xs ++ (x ∷ drop (place + 1) xs)
parted {A = A} xs place x at = sym (take-append-drop place xs) ∙ ap (λ (ys : List A). take place xs ++ ys) (drop_here xs place x at)

-- the window of one place
pub one_taken : {A : Type 0} (xs : List A) (place : ℕ) (x : A) → slice_get xs place ≡ Some x → take (place + 1 - place) (drop place xs) ≡ x ∷ []
one_taken {A = A} xs place x at =
    let one : place + 1 - place ≡ 1 = omega arith in
    ap (λ (n : ℕ). take n (drop place xs)) one ∙ ap (λ (ys : List A). take 1 ys) (drop_here xs place x at)

-- before the place nothing changes
pub before_it : {A : Type 0} (xs ys : List A) (p place : ℕ) (x : A) → p < place → place ≤ length xs → slice_get (take place xs ++ ys) p ≡ Some x → slice_get xs p ≡ Some x
before_it {A = A} xs ys p place x below within at =
    let whole : get_or (take place xs ++ ys) p x ≡ x = get_or_from_slice_get (take place xs ++ ys) p x x at in
    let long : length (take place xs) ≡ place = length-take-le place xs within in
    let front : get_or (take place xs ++ ys) p x ≡ get_or (take place xs) p x = get_or_append_left (take place xs) ys x p (omega (arith, long, below)) in
    let here : get_or (take place xs) p x ≡ get_or xs p x = get_or-take place xs p x below in
    slice_get-get_or xs p x (omega (arith, below, within)) ∙ ap Some (sym here ∙ (sym front ∙ whole))

filter_skips : {A : Type 0} (test : A → Bool) (x : A) (xs : List A) → test x ≡ false → filter test (x ∷ xs) ≡ filter test xs
filter_skips test x xs fails = grind (arith, fails)

pub filter_none : {A : Type 0} (test : A → Bool) (new : List A) → ((k : ℕ) (x : A) → slice_get new k ≡ Some x → test x ≡ false) → filter test new ≡ []
filter_none test [] fails = refl
filter_none test (x ∷ new) fails = filter_skips test x new (fails 0 x refl) ∙ filter_none test new (λ k y at. fails (suc k) y at)

-- what passes a test is the same, where neither the element nor the others do
pub same_filtered : {A : Type 0} (test : A → Bool) (xs new : List A) (place : ℕ) (x : A) → slice_get xs place ≡ Some x → test x ≡ false → filter test new ≡ [] →
    filter test (take place xs ++ (new ++ drop (place + 1) xs)) ≡ filter test xs
same_filtered {A = A} test xs new place x at fails none =
    let left : filter test (take place xs ++ (new ++ drop (place + 1) xs)) ≡ filter test (take place xs) ++ filter test (drop (place + 1) xs) =
    filter-append test (take place xs) (new ++ drop (place + 1) xs) ∙ ap (λ (ys : List A). filter test (take place xs) ++ ys)
    (filter-append test new (drop (place + 1) xs) ∙ ap (λ (ys : List A). ys ++ filter test (drop (place + 1) xs)) none) in
    let right : filter test xs ≡ filter test (take place xs) ++ filter test (drop (place + 1) xs) =
    ap (filter test) (parted xs place x at) ∙ (filter-append test (take place xs) (x ∷ drop (place + 1) xs) ∙
    ap (λ (ys : List A). filter test (take place xs) ++ ys) (filter_skips test x (drop (place + 1) xs) fails)) in
    left ∙ sym right
