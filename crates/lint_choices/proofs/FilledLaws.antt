-- A list that is filled up to a bound, with what loops append to it.
use Rattle.std.proofs.Common.{◌≡◌, ℕ, zero, suc, ◌+◌, ◌-◌, ◌<◌, ◌≤◌, List, [], ◌∷◌, ◌++◌, length, take, refl, sym, ap, ◌∙◌, append_assoc, arith}
use Rattle.std.specs.List.{range_with_len, flat_map}
use Rattle.std.proofs.lemmas.List.{append-nil, length-append}
use Rattle.lint_choices.specs.declared.change.Change.{Change}
use Rattle.lint_choices.specs.Changes.{most_looked}
use Rattle.lint_choices.specs.machine.Within.{filled}

abbrev nothing : List Change
nothing = []

take_none : (n : ℕ) → take n nothing ≡ nothing
take_none zero = refl
take_none (suc n) = refl

less_none : (m : ℕ) → m ≡ m - 0
less_none m = omega arith

less_more : (n k : ℕ) → n - k ≡ suc n - suc k
less_more n k = omega arith

-- what is taken of two lists
take_both : (n : ℕ) (xs ys : List Change) → take n (xs ++ ys) ≡ take n xs ++ take (n - length (take n xs)) ys
take_both zero xs ys = refl
take_both (suc n) [] ys = ap (λ (k : ℕ). take k ys) (less_none (suc n))
take_both (suc n) (x ∷ xs) ys =
    ap (λ (zs : List Change). x ∷ zs) (take_both n xs ys)
    ∙ ap (λ (k : ℕ). x ∷ (take n xs ++ take k ys)) (less_more n (length (take n xs)))

less_both : (m a b : ℕ) → m - a - b ≡ m - (a + b)
less_both m a b = omega arith

pub filled_none : (front : List Change) → filled front [] ≡ front
filled_none front = ap (λ (xs : List Change). front ++ xs) (take_none (most_looked - length front)) ∙ append-nil front

-- filled with some and then with others: filled with both
pub filled_both : (front xs ys : List Change) → filled (filled front xs) ys ≡ filled front (xs ++ ys)
filled_both front xs ys =
    let n : ℕ = most_looked - length front in
    let left : most_looked - length (front ++ take n xs) ≡ n - length (take n xs) =
    ap (λ (k : ℕ). most_looked - k) (length-append front (take n xs)) ∙ sym (less_both most_looked (length front) (length (take n xs))) in
    ap (λ (k : ℕ). (front ++ take n xs) ++ take k ys) left
    ∙ append_assoc front (take n xs) (take (n - length (take n xs)) ys)
    ∙ sym (ap (λ (zs : List Change). front ++ zs) (take_both n xs ys))

-- one number more is done
pub filled_next : (made : ℕ → List Change) (i end : ℕ) (out more whole : List Change) →
    i < end → more ≡ filled out (made i) → filled out (flat_map made (range_with_len i (end - i))) ≡ whole →
    filled more (flat_map made (range_with_len (i + 1) (end - (i + 1)))) ≡ whole
filled_next made i end out more whole within is h =
    let n : ℕ = end - (i + 1) in
    let here : end - i ≡ suc n = omega arith in
    rw is (filled_both out (made i) (flat_map made (range_with_len (i + 1) n))
    ∙ sym (ap (λ (k : ℕ). filled out (flat_map made (range_with_len i k))) here) ∙ h)

-- all are done
pub filled_ends : (made : ℕ → List Change) (end : ℕ) (out whole : List Change) →
    filled out (flat_map made (range_with_len end (end - end))) ≡ whole → out ≡ whole
filled_ends made end out whole h =
    let none : end - end ≡ 0 = omega arith in
    sym (filled_none out) ∙ sym (ap (λ (k : ℕ). filled out (flat_map made (range_with_len end k))) none) ∙ h

-- there is room for one
pub filled_one : (front : List Change) (c : Change) → length front < most_looked → front ++ c ∷ [] ≡ filled front (c ∷ [])
filled_one front c room =
    let n : ℕ = most_looked - length front - 1 in
    let some : most_looked - length front ≡ suc n = omega arith in
    sym (ap (λ (k : ℕ). front ++ take k (c ∷ [])) some ∙ ap (λ (xs : List Change). front ++ c ∷ xs) (take_none n))

-- there is none
pub filled_full : (front more : List Change) → most_looked ≤ length front → front ≡ filled front more
filled_full front more full =
    let none : most_looked - length front ≡ 0 = omega arith in
    sym (ap (λ (k : ℕ). front ++ take k more) none ∙ append-nil front)

-- the choice itself, and what is made behind it
pub filled_itself : (c : Change) (none a b more : List Change) → none ≡ [] → a ≡ filled none (c ∷ []) → b ≡ filled a more → b ≡ filled [] (c ∷ more)
filled_itself c none a b more empty first second =
    rw second (rw first (rw empty (filled_both [] (c ∷ []) more)))

-- what is made behind that
pub searched_filled : (c : Change) (a b ones twos : List Change) → a ≡ filled [] (c ∷ ones) → b ≡ filled a twos → b ≡ take most_looked (c ∷ (ones ++ twos))
searched_filled c a b ones twos first second = rw second (rw first (filled_both [] (c ∷ ones) twos))

pub round_filled : (c every : Change) (a b d ones shares twos : List Change) → a ≡ filled [] (c ∷ ones) → b ≡ filled a (shares ++ every ∷ []) → d ≡ filled b twos →
    d ≡ take most_looked (c ∷ (ones ++ (shares ++ (every ∷ twos))))
round_filled c every a b d ones shares twos first second third =
    rw third (rw second (rw first (
    ap (λ (xs : List Change). filled xs twos) (filled_both [] (c ∷ ones) (shares ++ every ∷ []))
    ∙ filled_both [] (c ∷ (ones ++ (shares ++ every ∷ []))) twos
    ∙ ap (λ (xs : List Change). take most_looked (c ∷ xs))
    (append_assoc ones (shares ++ every ∷ []) twos ∙ ap (λ (xs : List Change). ones ++ xs) (append_assoc shares (every ∷ []) twos)))))
