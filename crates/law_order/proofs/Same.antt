-- Items in the order of their jobs are the same items.
use Rattle.std.proofs.Common.{◌≡◌, ℕ, zero, suc, ◌+◌, ◌-◌, ◌<◌, inl, inr, List, [], ◌∷◌, ◌++◌, map, length, get_or, refl, sym, ap, subst, ◌∙◌, arith}
use Rattle.std.specs.List.{Contains, remove, range_with_len}
use Rattle.std.specs.List.Sorted.{IsPermutation}
use Rattle.std.proofs.lemmas.Bool.{cases_lt, cases_eq}
use Rattle.std.proofs.lemmas.List.{get_or_default}
use Rattle.std.proofs.lemmas.List.Edits.{length-remove, get_or-remove_below, get_or-remove_above}
use Rattle.std.proofs.lemmas.List.FromFn.{map-range_with_len_more, fill_by_all}
use Rattle.std.proofs.lemmas.List.Quantifiers.{all_pairs_remove}
use Rattle.std.proofs.lemmas.List.Sorted.{IsPermutation-refl, IsPermutation-sym, IsPermutation-cons, IsPermutation-to_front, IsPermutation-remove, IsPermutation-trans, IsPermutation-map}
use Rattle.job_order.specs.Order.{ComesBefore, AreInOrder}
use Rattle.law_order.specs.Ordered.{StaySame}

-- ---- the places, without the last

differ : (cycles : List ℕ) (a b : ℕ) → ComesBefore cycles a b → a ≡ b → ⊥
differ cycles a b (inl less) e = let same : get_or cycles a 0 ≡ get_or cycles b 0 = ap (λ (k : ℕ). get_or cycles k 0) e in absurd (omega arith)
differ cycles a b (inr (same, less)) e = absurd (omega arith)

module _ (cycles order : List ℕ) (n p : ℕ) (old : AreInOrder cycles (n + 1) order) (within : p < length order) (at_p : (d : ℕ) → get_or order p d ≡ n) where
  long : length (remove order p) + 1 ≡ length order
  long = length-remove order p within

  -- another place has another
  other : (i d : ℕ) → i < length order → (i ≡ p → ⊥) → get_or order i d ≡ n → ⊥
  other i d h apart e = elim (cases_lt i p) as (λ c. ⊥) [
    | inl less ↦ differ cycles (get_or order i d) (get_or order p d) (old.sorted i p d less within) (e ∙ sym (at_p d))
    | inr more ↦ differ cycles (get_or order p d) (get_or order i d) (old.sorted p i d (omega arith) h) (at_p d ∙ sym e)
  ]

  low : (i d : ℕ) → i < length order → (i ≡ p → ⊥) → get_or order i d < n
  low i d h apart = let less : get_or order i d < n + 1 = old.within i d h in let not_n = other i d h apart in omega arith

  left_low : (i d : ℕ) → i < length (remove order p) → get_or (remove order p) i d < n
  left_low i d h = elim (cases_lt i p) as (λ c. get_or (remove order p) i d < n) [
    | inl less ↦ rw (get_or-remove_below order p d i less within) (low i d (omega (arith, long, h)) (λ e. absurd (omega arith)))
    | inr more ↦ rw (get_or-remove_above order p d i more within) (low (i + 1) d (omega (arith, long, h)) (λ e. absurd (omega arith)))
  ]

  left_has : (k : ℕ) → k < n → Contains order k → Contains (remove order p) k
  left_has k less (q, h, is) = elim (cases_lt q p) as (λ c. Contains (remove order p) k) [
    | inl before ↦ (q, omega (arith, long, h), get_or-remove_below order p k q before within ∙ is)
    | inr after ↦ elim (cases_eq q p) as (λ c. Contains (remove order p) k) [
      | inl e ↦ let same : k ≡ n = sym is ∙ ap (λ (i : ℕ). get_or order i k) e ∙ at_p k in absurd (omega arith)
      | inr e ↦ let back : (q - 1) + 1 ≡ q = omega arith in
          (q - 1, omega (arith, long, h), get_or-remove_above order p k (q - 1) (omega arith) within ∙ ap (λ (i : ℕ). get_or order i k) back ∙ is)
    ]
  ]

  pub less_one : AreInOrder cycles n (remove order p)
  less_one = record {
    sorted = all_pairs_remove (ComesBefore cycles) order p within old.sorted;
    all = λ k h. left_has k h (old.all k (omega arith));
    within = left_low;
  }

-- ---- the places in order

no_places : (cycles order : List ℕ) → AreInOrder cycles 0 order → order ≡ []
no_places cycles [] old = refl
no_places cycles (place ∷ order) old = absurd (let h : get_or (place ∷ order) 0 0 < 0 = old.within 0 0 (omega arith) in omega arith)

same : (n k : ℕ) → map (λ (i : ℕ). i) (range_with_len k n) ≡ range_with_len k n
same zero k = refl
same (suc n) k = ap (λ (xs : List ℕ). k ∷ xs) (same n (k + 1))

range_more : (n : ℕ) → range_with_len 0 (n + 1) ≡ range_with_len 0 n ++ n ∷ []
range_more n = sym (same (n + 1) 0) ∙ map-range_with_len_more (λ (k : ℕ). k) 0 n n (omega arith) ∙ ap (λ (xs : List ℕ). xs ++ n ∷ []) (same n 0)

places_same : (n : ℕ) (cycles order : List ℕ) → AreInOrder cycles n order → IsPermutation (range_with_len 0 n) order
places_same zero cycles order old = subst (IsPermutation (range_with_len 0 0)) (sym (no_places cycles order old)) (IsPermutation-refl [])
places_same (suc n) cycles order old =
    let more : AreInOrder cycles (n + 1) order = subst (λ (m : ℕ). AreInOrder cycles m order) (let e : suc n ≡ n + 1 = omega arith in e) old in
    let spot : Contains order n = old.all n (omega arith) in
    let at : (d : ℕ) → get_or order spot.0 d ≡ n = λ d. get_or_default order spot.0 d n spot.1 ∙ spot.2 in
    let rest : IsPermutation (range_with_len 0 n) (remove order spot.0) = places_same n cycles (remove order spot.0) (less_one cycles order n spot.0 more spot.1 at) in
    let front : IsPermutation (range_with_len 0 n ++ n ∷ []) (n ∷ range_with_len 0 n) = IsPermutation-to_front (range_with_len 0 n) n in
    let put : IsPermutation (n ∷ range_with_len 0 n) (n ∷ remove order spot.0) = IsPermutation-cons n (range_with_len 0 n) (remove order spot.0) rest in
    let back : IsPermutation (n ∷ remove order spot.0) order = IsPermutation-sym order (n ∷ remove order spot.0) (IsPermutation-remove order spot.0 n spot.1 (sym (at n))) in
    let all : IsPermutation (range_with_len 0 n ++ n ∷ []) order = IsPermutation-trans (range_with_len 0 n ++ n ∷ []) (n ∷ range_with_len 0 n) order front (IsPermutation-trans (n ∷ range_with_len 0 n) (n ∷ remove order spot.0) order put back) in
    subst (λ (m : ℕ). IsPermutation (range_with_len 0 m) order) (let e : n + 1 ≡ suc n = omega arith in e) (subst (λ (xs : List ℕ). IsPermutation xs order) (sym (range_more n)) all)

-- ---- items

pub stay_same : {A : Type 0} (items : List A) → StaySame items
stay_same [] cycles order same is = IsPermutation-refl []
stay_same {A} (x ∷ xs) cycles order same is =
    let at : ℕ → A = λ place. get_or (x ∷ xs) place x in
    let whole : x ∷ xs ≡ map at (range_with_len 0 (length (x ∷ xs))) = fill_by_all at (x ∷ xs) (length (x ∷ xs)) x refl (λ k h. refl) in
    let places : IsPermutation (range_with_len 0 (length (x ∷ xs))) order = places_same (length (x ∷ xs)) cycles order (subst (λ (n : ℕ). AreInOrder cycles n order) same is) in
    subst (λ (ys : List A). IsPermutation ys (map at order)) (sym whole) (IsPermutation-map at (range_with_len 0 (length (x ∷ xs))) order places)
