-- Lists that agree as far as both go are one.
use Rattle.std.proofs.Common.{◌≡◌, ◌≤◌, ◌<◌, ◌+◌, ℕ, zero, suc, List, [], ◌∷◌, map, sym, subst, ◌∙◌, length, take, get_or, arith, add-one, refl}
use Rattle.std.proofs.lemmas.List.{take_all}

pub same_lists : {A : Type 0} (xs ys : List A) (i : ℕ) → take i xs ≡ take i ys → length xs ≤ i → length ys ≤ i → xs ≡ ys
same_lists xs ys i same p q = sym (take_all i xs p) ∙ (same ∙ take_all i ys q)

both : {A : Type 0} (x y : A) (xs ys : List A) → x ≡ y → xs ≡ ys → x ∷ xs ≡ y ∷ ys
both x y xs ys p q = cc

heads : {A : Type 0} (x y : A) (xs ys : List A) → x ∷ xs ≡ y ∷ ys → x ≡ y
heads x y xs ys p = cc

tails : {A : Type 0} (x y : A) (xs ys : List A) → x ∷ xs ≡ y ∷ ys → xs ≡ ys
tails x y xs ys p = cc

next : {A B : Type 0} (f : B → A) (xs : List A) (ys : List B) (i : ℕ) (x : A) (d : B) → take i xs ≡ take i (map f ys) → i < length xs → i < length ys
    → x ≡ get_or xs i x → x ≡ f (get_or ys i d) → take (suc i) xs ≡ take (suc i) (map f ys)
next f [] ys i x d same p q is eq = absurd (omega arith)
next f (a ∷ xs) [] i x d same p q is eq = absurd (omega arith)
next f (a ∷ xs) (b ∷ ys) zero x d same p q is eq = both a (f b) [] [] (sym is ∙ eq) refl
next f (a ∷ xs) (b ∷ ys) (suc i) x d same p q is eq =
    both a (f b) (take (suc i) xs) (take (suc i) (map f ys)) (heads a (f b) (take i xs) (take i (map f ys)) same)
    (next f xs ys i x d (tails a (f b) (take i xs) (take i (map f ys)) same) (omega arith) (omega arith) is eq)

-- one more that is the same
pub one_more : {A B : Type 0} (f : B → A) (xs : List A) (ys : List B) (i : ℕ) (x : A) (d : B) → take i xs ≡ take i (map f ys) → i < length xs → i < length ys
    → x ≡ get_or xs i x → x ≡ f (get_or ys i d) → take (i + 1) xs ≡ take (i + 1) (map f ys)
one_more f xs ys i x d same p q is eq = subst (λ (k : ℕ). take k xs ≡ take k (map f ys)) (sym (add-one i)) (next f xs ys i x d same p q is eq)
