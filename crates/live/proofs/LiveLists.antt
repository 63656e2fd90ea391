-- Increasing numbers are given by which they are.
use Rattle.std.proofs.Common.{◌≡◌, ◌⊎◌, inl, inr, ℕ, suc, ◌+◌, ◌<◌, Bool, true, false, ◌||◌, eqb, List, [], ◌∷◌, refl, sym, ap, subst, ◌∙◌, eq-eqb, arith}
use Rattle.std.specs.Prelude.{slice_index}
use Rattle.std.specs.List.Sorted.{IsStrictlyIncreasing}
use Rattle.std.proofs.lemmas.Bool.{or_cases, or_left, eqb-true, false≢true}
use Rattle.rtx_tree.specs.declared.function.Function.{Function}
use Rattle.rtx_tree.specs.RegSet.{has_reg}
use Rattle.live.specs.Live.{AreLiveAfter}

tail_up : (x : ℕ) (xs : List ℕ) → IsStrictlyIncreasing (x ∷ xs) → IsStrictlyIncreasing xs
tail_up x xs up k l = let e : suc k + 1 ≡ suc (k + 1) = omega arith in subst (λ n. slice_index xs k < slice_index (x ∷ xs) n) e (up (suc k) (omega (arith, l)))

-- the first is below all others
above : (x : ℕ) (xs : List ℕ) (reg : ℕ) → IsStrictlyIncreasing (x ∷ xs) → has_reg xs reg ≡ true → x < reg
above x [] reg up h = absurd (false≢true h)
above x (y ∷ ys) reg up h =
    let first : x < y = up 0 (omega arith) in
    elim (or_cases (eqb y reg) (has_reg ys reg) h) [
      | inl is ↦ let same = eqb-true y reg is in omega (arith, first, same)
      | inr more ↦ let rest = above y ys reg (tail_up x (y ∷ ys) up) more in omega (arith, first, rest)
    ]

not_true : (b : Bool) → (b ≡ true → ⊥) → b ≡ false
not_true true never = absurd (never refl)
not_true false never = refl

behind_first : (b p q : Bool) → (b ≡ true → p ≡ false) → (b ≡ true → q ≡ false) → (b || p) ≡ (b || q) → p ≡ q
behind_first true p q f g h = f refl ∙ sym (g refl)
behind_first false p q f g h = h

not_behind : (x : ℕ) (xs : List ℕ) (reg : ℕ) → IsStrictlyIncreasing (x ∷ xs) → eqb x reg ≡ true → has_reg xs reg ≡ false
not_behind x xs reg up is = not_true (has_reg xs reg) (λ h. let same = eqb-true x reg is in let below = above x xs reg up h in omega (arith, same, below))

pub same_sets : (xs ys : List ℕ) → IsStrictlyIncreasing xs → IsStrictlyIncreasing ys → ((reg : ℕ) → has_reg xs reg ≡ has_reg ys reg) → xs ≡ ys
same_sets [] [] up up' same = refl
same_sets [] (y ∷ ys) up up' same = absurd (false≢true (same y ∙ or_left (eqb y y) (has_reg ys y) (eq-eqb y y refl)))
same_sets (x ∷ xs) [] up up' same = absurd (false≢true (sym (same x) ∙ or_left (eqb x x) (has_reg xs x) (eq-eqb x x refl)))
same_sets (x ∷ xs) (y ∷ ys) up up' same =
    let first : x ≡ y = heads in
    let with_x : IsStrictlyIncreasing (x ∷ ys) = subst (λ z. IsStrictlyIncreasing (z ∷ ys)) (sym first) up' in
    let rest = same_sets xs ys (tail_up x xs up) (tail_up y ys up')
    (λ reg. behind_first (eqb x reg) (has_reg xs reg) (has_reg ys reg) (not_behind x xs reg up) (not_behind x ys reg with_x) (same reg ∙ ap (λ z. eqb z reg || has_reg ys reg) (sym first))) in
    ap (λ z. z ∷ xs) first ∙ ap (λ (zs : List ℕ). y ∷ zs) rest
  where
    in_other : (eqb y x ≡ true) ⊎ (has_reg ys x ≡ true)
    in_other = or_cases (eqb y x) (has_reg ys x) (sym (same x) ∙ or_left (eqb x x) (has_reg xs x) (eq-eqb x x refl))

    in_one : (eqb x y ≡ true) ⊎ (has_reg xs y ≡ true)
    in_one = or_cases (eqb x y) (has_reg xs y) (same y ∙ or_left (eqb y y) (has_reg ys y) (eq-eqb y y refl))

    heads : x ≡ y
    heads = elim in_other [
      | inl is ↦ sym (eqb-true y x is)
      | inr later ↦ elim in_one [
        | inl is ↦ eqb-true x y is
        | inr after ↦ let a = above y ys x up' later in let b = above x xs y up after in absurd (omega (arith, a, b))
      ]
    ]

pub agree : (p q : Bool) → (p ≡ true → q ≡ true) → (q ≡ true → p ≡ true) → p ≡ q
agree true q f g = sym (f refl)
agree false true f g = g refl
agree false false f g = refl

-- what is live after a place is one list
pub live_one : (f : Function) (place : ℕ) (xs ys : List ℕ) → AreLiveAfter f place xs → AreLiveAfter f place ys → xs ≡ ys
live_one f place xs ys a b = same_sets xs ys a.ordered b.ordered (λ reg. agree (has_reg xs reg) (has_reg ys reg) (λ h. (b.each reg).1 ((a.each reg).0 h)) (λ h. (a.each reg).1 ((b.each reg).0 h)))
