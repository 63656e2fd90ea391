-- Windows of a list by their parts, and lists of which an element is replaced.
use Rattle.std.proofs.Common.{◌≡◌, ℕ, zero, suc, ◌+◌, ◌-◌, ◌<◌, ◌≤◌, List, [], ◌∷◌, ◌++◌, length, take, drop, Some, refl, sym, ap, ◌∙◌, arith, append_assoc, take-add}
use Rattle.std.specs.Prelude.{slice_get}
use Rattle.std.proofs.Math.Seq.{drop-append-add}
use Rattle.std.proofs.lemmas.List.{drop-drop, drop-take, length-take-le}
use Rattle.law_insn_replaced.proofs.Lists.{drop_here}

-- ---- windows

-- a window begins with its first
pub window_first : {A : Type 0} (xs : List A) (a b : ℕ) (x : A) → a < b → slice_get xs a ≡ Some x → take (b - a) (drop a xs) ≡ x ∷ take (b - (a + 1)) (drop (a + 1) xs)
window_first xs a b x order at =
    let long : b - a ≡ suc (b - (a + 1)) = omega (arith, order) in
    ap (λ n. take n (drop a xs)) long ∙ ap (take (suc (b - (a + 1)))) (drop_here xs a x at)

-- and ends with its last
pub window_last : {A : Type 0} (xs : List A) (a b : ℕ) (x : A) → a ≤ b → slice_get xs b ≡ Some x → take (b + 1 - a) (drop a xs) ≡ take (b - a) (drop a xs) ++ x ∷ []
window_last xs a b x order at =
    let long : b + 1 - a ≡ (b - a) + 1 = omega (arith, order) in
    let place : a + (b - a) ≡ b = omega (arith, order) in
    ap (λ n. take n (drop a xs)) long
    ∙ (take-add (b - a) 1 (drop a xs)
    ∙ ap (λ rest. take (b - a) (drop a xs) ++ rest) (ap (take 1) (drop-drop (b - a) a xs ∙ (ap (λ n. drop n xs) place ∙ drop_here xs b x at))))

-- from a first up to a second behind it
pub window_both : {A : Type 0} (xs : List A) (a b : ℕ) (x y : A) → a < b → slice_get xs a ≡ Some x → slice_get xs b ≡ Some y →
    take (b + 1 - a) (drop a xs) ≡ x ∷ (take (b - (a + 1)) (drop (a + 1) xs) ++ y ∷ [])
window_both xs a b x y order here there = window_last xs a b y (omega (arith, order)) there ∙ ap (λ w. w ++ y ∷ []) (window_first xs a b x order here)

-- what stands in front of a second is what stands in front of a first, and the window between them
pub front_both : {A : Type 0} (xs : List A) (a b : ℕ) (x : A) → a < b → slice_get xs a ≡ Some x → take b xs ≡ take a xs ++ (x ∷ take (b - (a + 1)) (drop (a + 1) xs))
front_both xs a b x order at =
    let long : b ≡ a + (b - a) = omega (arith, order) in
    ap (λ n. take n xs) long ∙ (take-add a (b - a) xs ∙ ap (λ w. take a xs ++ w) (window_first xs a b x order at))

-- ---- a list with others in the place of an element

-- the element's place is that of the last of a window
pub put_last : {A : Type 0} (xs : List A) (a b : ℕ) (x new : A) → a < b → slice_get xs a ≡ Some x →
    take a xs ++ ((x ∷ (take (b - (a + 1)) (drop (a + 1) xs) ++ new ∷ [])) ++ drop (b + 1) xs) ≡ take b xs ++ (new ∷ [] ++ drop (b + 1) xs)
put_last xs a b x new order at =
    let between = x ∷ take (b - (a + 1)) (drop (a + 1) xs) in
    ap (λ w. take a xs ++ w) (append_assoc between (new ∷ []) (drop (b + 1) xs))
    ∙ (sym (append_assoc (take a xs) between (new ∷ [] ++ drop (b + 1) xs))
    ∙ ap (λ w. w ++ (new ∷ [] ++ drop (b + 1) xs)) (sym (front_both xs a b x order at)))

-- in front of the place
pub front_at : {A : Type 0} (xs ys : List A) (p n : ℕ) → p < n → n ≤ length xs → slice_get (take n xs ++ ys) p ≡ slice_get xs p
front_at [] ys p n below within = absurd (omega arith)
front_at (x ∷ xs) ys p zero below within = absurd (omega arith)
front_at (x ∷ xs) ys zero (suc n) below within = refl
front_at (x ∷ xs) ys (suc p) (suc n) below within = front_at xs ys p n (omega arith) (omega arith)

front_taken : {A : Type 0} (xs ys : List A) (b n : ℕ) → b ≤ n → n ≤ length xs → take b (take n xs ++ ys) ≡ take b xs
front_taken xs ys zero n below within = refl
front_taken [] ys (suc b) n below within = absurd (omega arith)
front_taken (x ∷ xs) ys (suc b) zero below within = absurd (omega arith)
front_taken (x ∷ xs) ys (suc b) (suc n) below within = ap (λ rest. x ∷ rest) (front_taken xs ys b n (omega arith) (omega arith))

pub front_window : {A : Type 0} (xs ys : List A) (a b n : ℕ) → a ≤ b → b ≤ n → n ≤ length xs → take (b - a) (drop a (take n xs ++ ys)) ≡ take (b - a) (drop a xs)
front_window xs ys a b n order below within =
    let all : a + (b - a) ≡ b = omega (arith, order) in
    sym (drop-take a (b - a) (take n xs ++ ys))
    ∙ (ap (λ k. drop a (take k (take n xs ++ ys))) all
    ∙ (ap (drop a) (front_taken xs ys b n below within)
    ∙ (ap (λ k. drop a (take k xs)) (sym all) ∙ drop-take a (b - a) xs)))

-- behind the place
pub behind_drop : {A : Type 0} (xs new : List A) (k m : ℕ) → k ≤ length xs → drop (k + (length new + m)) (take k xs ++ (new ++ drop (k + 1) xs)) ≡ drop (k + 1 + m) xs
behind_drop xs new k m within =
    let long = length-take-le k xs within in
    ap (λ n. drop (n + (length new + m)) (take k xs ++ (new ++ drop (k + 1) xs))) (sym long)
    ∙ (drop-append-add (take k xs) (new ++ drop (k + 1) xs) (length new + m)
    ∙ (drop-append-add new (drop (k + 1) xs) m ∙ drop-drop m (k + 1) xs))

-- what stands where a list is dropped
pub first_left : {A : Type 0} (xs ys : List A) (p q : ℕ) → drop p xs ≡ drop q ys → slice_get xs p ≡ slice_get ys q
first_left xs ys p q same = sym (at_zero xs p) ∙ (ap (λ zs. slice_get zs 0) same ∙ at_zero ys q)
  where
    at_zero : {A : Type 0} (xs : List A) (p : ℕ) → slice_get (drop p xs) 0 ≡ slice_get xs p
    at_zero [] zero = refl
    at_zero [] (suc p) = refl
    at_zero (x ∷ xs) zero = refl
    at_zero (x ∷ xs) (suc p) = at_zero xs p
