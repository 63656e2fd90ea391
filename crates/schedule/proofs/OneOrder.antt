-- Jobs are given one list of cycles, and come in one order by them.
use Rattle.std.proofs.Common.{◌≡◌, ℕ, zero, suc, ◌<◌, inl, inr, List, [], ◌∷◌, Some, None, length, get_or, refl, sym, ap, subst, ◌∙◌, arith}
use Rattle.std.specs.Prelude.{slice_get, AllPairs, Contains}
use Rattle.std.proofs.lemmas.Bool.{cases_lt}
use Rattle.dfa_ways.specs.Ways.{Way}
use Rattle.job_order.specs.declared.job.Job.{Job}
use Rattle.job_order.specs.declared.placed.Placed.{Placed}
use Rattle.job_order.specs.Slots.{free_way, IsSlot}
use Rattle.job_order.specs.Order.{none_placed, placed_at, Places, AreCycles, ComesBefore, IsOrder}

some_is : {A : Type 0} (x y : A) → Some x ≡ Some y → x ≡ y
some_is x y e = cc

none_some : {A : Type 0} (x : A) → None ≡ Some x → ⊥
none_some x e = cc

-- ---- a slot

module _ (s : Placed) (j : Job) where
  not_less : (c d : ℕ) (w v : Way) → IsSlot s j c w → IsSlot s j d v → c < d → ⊥
  not_less c d w v one other less = none_some w (sym (other.least c one.late less) ∙ one.free)

  one_cycle : (c d : ℕ) (w v : Way) → IsSlot s j c w → IsSlot s j d v → c ≡ d
  one_cycle c d w v one other = elim (cases_lt c d) as (λ _. c ≡ d) [
    | inl less ↦ absurd (not_less c d w v one other less)
    | inr more ↦ elim (cases_lt d c) as (λ _. c ≡ d) [
      | inl less ↦ absurd (not_less d c v w other one less)
      | inr least ↦ omega arith
    ]
  ]

  one_way : (c d : ℕ) (w v : Way) → IsSlot s j c w → IsSlot s j d v → w ≡ v
  one_way c d w v one other =
      some_is w v (sym one.free ∙ (ap (λ (n : ℕ). free_way s.taken n j.ways) (one_cycle c d w v one other) ∙ other.free))

-- ---- cycles

module _ (jobs : List Job) where
  pub places_one : (s : Placed) (c d : List ℕ) → Places jobs s c → Places jobs s d → c ≡ d
  places_one _ _ _ (Places.done s none) (Places.done _ other) = refl
  places_one _ _ _ (Places.done s none) (Places.one _ k j cycle way cycles is at slot rest) = absurd (none_some k (sym none ∙ is))
  places_one _ _ _ (Places.one s k j cycle way cycles is at slot rest) (Places.done _ none) = absurd (none_some k (sym none ∙ is))
  places_one _ _ _ (Places.one s k j cycle way cycles is at slot rest) (Places.one _ l i other_cycle other_way other_cycles is_too at_too slot_too rest_too) =
      let places : l ≡ k = some_is l k (sym is_too ∙ is) in
      let same : i ≡ j = some_is i j (sym at_too ∙ (ap (slice_get jobs) places ∙ at)) in
      let slot_there : IsSlot s j other_cycle other_way = subst (λ (x : Job). IsSlot s x other_cycle other_way) same slot_too in
      let cycles_same : other_cycle ≡ cycle = one_cycle s j other_cycle cycle other_way way slot_there slot in
      let ways_same : other_way ≡ way = one_way s j other_cycle cycle other_way way slot_there slot in
      let state : placed_at s l other_cycle other_way ≡ placed_at s k cycle way =
      ap (λ (p : ℕ). placed_at s p other_cycle other_way) places
      ∙ (ap (λ (n : ℕ). placed_at s k n other_way) cycles_same ∙ ap (λ (w : Way). placed_at s k cycle w) ways_same) in
      places_one (placed_at s k cycle way) cycles other_cycles rest (subst (λ (t : Placed). Places jobs t other_cycles) state rest_too)

  pub cycles_one : (c d : List ℕ) → AreCycles jobs c → AreCycles jobs d → c ≡ d
  cycles_one c d = places_one (none_placed (length jobs)) c d

-- ---- the order

module _ (cycles : List ℕ) where
  abbrev Before : ℕ → ℕ → Type 0
  Before = ComesBefore cycles

  not_itself : (a : ℕ) → Before a a → ⊥
  not_itself a (inl less) = omega arith
  not_itself a (inr (same, less)) = omega arith

  not_both : (a b : ℕ) → Before a b → Before b a → ⊥
  not_both a b (inl less) (inl more) = omega arith
  not_both a b (inl less) (inr (same, more)) = omega arith
  not_both a b (inr (same, less)) (inl more) = omega arith
  not_both a b (inr (same, less)) (inr (too, more)) = omega arith

  abbrev Sorted : List ℕ → Type 0
  Sorted = AllPairs Before

  abbrev Within : List ℕ → List ℕ → Type 0
  Within xs ys = (k : ℕ) → Contains xs k → Contains ys k

  -- it is the first, or comes behind it
  in_tail : (x k : ℕ) (xs : List ℕ) → Contains (x ∷ xs) k → (x ≡ k → ⊥) → Contains xs k
  in_tail x k xs (zero, h, is) other = absurd (other is)
  in_tail x k xs (suc i, h, is) other = (i, omega arith, is)

  behind_first : (x k : ℕ) (xs : List ℕ) → Sorted (x ∷ xs) → Contains xs k → Before x k
  behind_first x k xs sorted (i, h, is) = subst (Before x) is (sorted 0 (suc i) k (omega arith) (omega arith))

  sorted_tail : (x : ℕ) (xs : List ℕ) → Sorted (x ∷ xs) → Sorted xs
  sorted_tail x xs sorted = λ i j d less h. sorted (suc i) (suc j) d (omega arith) (omega arith)

  first_in : (x : ℕ) (xs : List ℕ) → Contains (x ∷ xs) x
  first_in x xs = (0, omega arith, refl)

  behind_in : (x k : ℕ) (xs : List ℕ) → Contains xs k → Contains (x ∷ xs) k
  behind_in x k xs (i, h, is) = (suc i, omega arith, is)

  -- the first of both is the same
  first_one : (x y : ℕ) (xs ys : List ℕ) → Sorted (x ∷ xs) → Sorted (y ∷ ys) → Contains (y ∷ ys) x → Contains (x ∷ xs) y → x ≡ y
  first_one x y xs ys first second (zero, h, is) other = sym is
  first_one x y xs ys first second (suc i, h, is) (zero, l, at) = at
  first_one x y xs ys first second (suc i, h, is) (suc j, l, at) =
      absurd (not_both x y (behind_first x y xs first (j, omega arith, at)) (behind_first y x ys second (i, omega arith, is)))

  tail_within : (x y : ℕ) (xs ys : List ℕ) → Sorted (x ∷ xs) → x ≡ y → Within (x ∷ xs) (y ∷ ys) → Within xs ys
  tail_within x y xs ys sorted same within k has =
      in_tail y k ys (within k (behind_in x k xs has)) (λ is. not_itself x (subst (Before x) (sym (same ∙ is)) (behind_first x k xs sorted has)))

  sorted_one : (xs ys : List ℕ) → Sorted xs → Sorted ys → Within xs ys → Within ys xs → xs ≡ ys
  sorted_one [] [] first second within back = refl
  sorted_one [] (y ∷ ys) first second within back = let has = back y (first_in y ys) in absurd (omega (arith, has.1))
  sorted_one (x ∷ xs) [] first second within back = let has = within x (first_in x xs) in absurd (omega (arith, has.1))
  sorted_one (x ∷ xs) (y ∷ ys) first second within back =
      let same : x ≡ y = first_one x y xs ys first second (within x (first_in x xs)) (back y (first_in y ys)) in
      let rest : xs ≡ ys = sorted_one xs ys (sorted_tail x xs first) (sorted_tail y ys second) (tail_within x y xs ys first same within) (tail_within y x ys xs second (sym same) back) in
      ap (λ (z : ℕ). z ∷ xs) same ∙ ap (λ (zs : List ℕ). y ∷ zs) rest

  low : (n k : ℕ) (xs : List ℕ) → ((i d : ℕ) → i < length xs → get_or xs i d < n) → Contains xs k → k < n
  low n k xs within (i, h, is) = subst (λ (p : ℕ). p < n) is (within i k h)

  pub order_one : (xs ys : List ℕ) → IsOrder cycles xs → IsOrder cycles ys → xs ≡ ys
  order_one xs ys first second =
      sorted_one xs ys first.sorted second.sorted
      (λ k has. second.all k (low (length cycles) k xs first.within has))
      (λ k has. first.all k (low (length cycles) k ys second.within has))
