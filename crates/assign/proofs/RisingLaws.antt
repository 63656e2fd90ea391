-- Increasing numbers are given by which they are.
use Rattle.std.proofs.Common.{◌≡◌, ℕ, suc, ◌<◌, Bool, true, false, eqb, List, [], ◌∷◌, length, get_or, refl, sym, ap, ◌∙◌, inl, inr, arith}
use Rattle.std.specs.List.{AllPairs}
use Rattle.std.specs.List.Sorted.{IsStrictlyIncreasing}
use Rattle.std.proofs.lemmas.Bool.{cases_lt, or_cases, or_left, or_right, false≢true, eqb-true, eq-eqb}
use Rattle.std.proofs.lemmas.List.Kept.{AllPairs-from_increasing}
use Rattle.rtx_tree.specs.RegSet.{has_reg}

-- each number is below all that follow
abbrev Rises : List ℕ → Type 0
Rises [] = Unit {0}
Rises (x ∷ xs) = ((k : ℕ) → has_reg xs k ≡ true → x < k) × Rises xs

above : (x : ℕ) (xs : List ℕ) → ((j : ℕ) → j < length xs → x < get_or xs j 0) → (k : ℕ) → has_reg xs k ≡ true → x < k
above x [] all k h = absurd (false≢true h)
above x (y ∷ xs) all k h =
    elim (or_cases (eqb y k) (has_reg xs k) h) [
      | inl e ↦ let l = all 0 (omega arith) in omega (arith, eqb-true y k e)
      | inr m ↦ above x xs (λ j l. all (suc j) (omega arith)) k m
    ]

rises : (xs : List ℕ) → AllPairs (λ x y. x < y) xs → Rises xs
rises [] all = tt
rises (x ∷ xs) all =
    (above x xs (λ j l. all 0 (suc j) 0 (omega arith) (omega arith)), rises xs (λ i j d l m. all (suc i) (suc j) d (omega arith) (omega arith)))

has_first : (x : ℕ) (xs : List ℕ) → has_reg (x ∷ xs) x ≡ true
has_first x xs = or_left (eqb x x) (has_reg xs x) (eq-eqb x x refl)

-- the first of two lists with the same members are the same
at_least : (x y : ℕ) (ys : List ℕ) → ((k : ℕ) → has_reg ys k ≡ true → y < k) → has_reg (y ∷ ys) x ≡ true → x < y → ⊥
at_least x y ys up h l =
    elim (or_cases (eqb y x) (has_reg ys x) h) [
      | inl e ↦ omega (arith, eqb-true y x e)
      | inr m ↦ omega (arith, up x m)
    ]

in_rest : (x y : ℕ) (xs ys : List ℕ) → x ≡ y → ((k : ℕ) → has_reg xs k ≡ true → x < k) → (k : ℕ) → has_reg (x ∷ xs) k ≡ has_reg (y ∷ ys) k → has_reg xs k ≡ true → has_reg ys k ≡ true
in_rest x y xs ys e up k same h =
    elim (or_cases (eqb y k) (has_reg ys k) (sym same ∙ or_right (eqb x k) (has_reg xs k) h)) [
      | inl f ↦ absurd (omega (arith, eqb-true y k f, up k h))
      | inr m ↦ m
    ]

same_tests : (a b : Bool) → (a ≡ true → b ≡ true) → (b ≡ true → a ≡ true) → a ≡ b
same_tests true b f g = sym (f refl)
same_tests false true f g = g refl
same_tests false false f g = refl

same_first : (x y : ℕ) (xs ys : List ℕ) → Rises (x ∷ xs) → Rises (y ∷ ys) → ((k : ℕ) → has_reg (x ∷ xs) k ≡ has_reg (y ∷ ys) k) → x ≡ y
same_first x y xs ys up up' same =
    elim (cases_lt x y) [
      | inl l ↦ absurd (at_least x y ys up'.0 (sym (same x) ∙ has_first x xs) l)
      | inr g ↦
          elim (cases_lt y x) [
            | inl l ↦ absurd (at_least y x xs up.0 (same y ∙ has_first y ys) l)
            | inr h ↦ omega arith
          ]
    ]

same_rising : (xs ys : List ℕ) → Rises xs → Rises ys → ((k : ℕ) → has_reg xs k ≡ has_reg ys k) → xs ≡ ys
same_rising [] [] up up' same = refl
same_rising [] (y ∷ ys) up up' same = absurd (false≢true (same y ∙ has_first y ys))
same_rising (x ∷ xs) [] up up' same = absurd (false≢true (sym (same x) ∙ has_first x xs))
same_rising (x ∷ xs) (y ∷ ys) up up' same =
    let e : x ≡ y = same_first x y xs ys up up' same in
    let rest : xs ≡ ys = same_rising xs ys up.1 up'.1 (λ k. same_tests (has_reg xs k) (has_reg ys k) (in_rest x y xs ys e up.0 k (same k)) (in_rest y x ys xs (sym e) up'.0 k (sym (same k)))) in
    ap (λ z. z ∷ xs) e ∙ ap (λ zs. y ∷ zs) rest

pub same_increasing : (xs ys : List ℕ) → IsStrictlyIncreasing xs → IsStrictlyIncreasing ys → ((k : ℕ) → has_reg xs k ≡ has_reg ys k) → xs ≡ ys
same_increasing xs ys up up' same = same_rising xs ys (rises xs (AllPairs-from_increasing xs up)) (rises ys (AllPairs-from_increasing ys up')) same
