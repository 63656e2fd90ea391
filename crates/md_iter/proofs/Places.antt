-- Which choice stands at a place: its values are the digits of the place, in the mixed radix of the numbers of values.
use Rattle.std.proofs.Common.{◌≡◌, inl, inr, ℕ, zero, suc, ◌+◌, ◌-◌, ◌*◌, ◌/◌, ◌%◌, ◌<◌, ◌≤◌, List, [], ◌∷◌, ◌++◌, Option, Some, None, option_map, map, length, drop, get_or, slice_get, refl, sym, ap, subst, ◌∙◌, arith}
use Rattle.std.specs.List.{flat_map}
use Rattle.std.proofs.lemmas.Bool.{cases_lt}
use Rattle.std.proofs.lemmas.Option.{slice_get-map}
use Rattle.std.proofs.Math.Nat.{div-eq_of_lt, mod-eq_of_lt, mod-eq-sub-mod, div-eq-sub-div, mod-lt, div-lt_iff_lt-mul, mul-div_cancel_left}
use Rattle.std.specs.Borrow.{Bor}
use Rattle.md_iter.specs.declared.definition.Value.{Value}
use Rattle.md_iter.specs.declared.definition.FormIterator.{FormIterator}
use Rattle.md_iter.specs.declared.choice.Choice.{Choice}
use Rattle.md_iter.specs.Choice.{Chosen, chosen_of, with_value, choices, choice_count, lent}
use Rattle.md_iter.proofs.Counts.{length_choices, length_map, at}

-- ---- numbers

left_factor : (n c at : ℕ) → at < n * c → 0 < n
left_factor zero c at h = grind (arith, h)
left_factor (suc n) c at h = omega arith

right_factor : (n c at : ℕ) → at < n * c → 0 < c
right_factor n zero at h = grind (arith, h)
right_factor n (suc c) at h = omega arith

-- ---- lists

get_left : {A : Type 0} (xs ys : List A) (n : ℕ) → n < length xs → slice_get (xs ++ ys) n ≡ slice_get xs n
get_left [] ys n h = absurd (omega arith)
get_left (x ∷ xs) ys zero h = refl
get_left (x ∷ xs) ys (suc n) h = get_left xs ys n (omega arith)

get_right : {A : Type 0} (xs ys : List A) (n k : ℕ) → n ≡ length xs + k → slice_get (xs ++ ys) n ≡ slice_get ys k
get_right [] ys n k h = ap (slice_get ys) (omega arith)
get_right (x ∷ xs) ys zero k h = absurd (omega arith)
get_right (x ∷ xs) ys (suc n) k h = get_right xs ys n k (omega arith)

no_value : {A : Type 0} (v : A) (o : Option A) → o ≡ None → o ≡ Some v → ⊥
no_value v o e f = cc

with_first : FormIterator → Value → List Chosen → List Chosen
with_first i v choice = record { iterator = i; value = v } ∷ choice

in_first : (i : FormIterator) (rest : List (List Chosen)) (w : Value) (vs : List Value) (n : ℕ) → n < length rest →
    slice_get (flat_map (with_value i rest) (w ∷ vs)) n ≡ option_map (λ choice. record { iterator = i; value = w } ∷ choice) (slice_get rest n)
in_first i rest w vs n h =
    get_left (with_value i rest w) (flat_map (with_value i rest) vs) n (rw (length_map (λ choice. record { iterator = i; value = w } ∷ choice) rest) h)
    ∙ slice_get-map (λ choice. record { iterator = i; value = w } ∷ choice) rest n

in_others : (i : FormIterator) (rest : List (List Chosen)) (w : Value) (vs : List Value) (n : ℕ) → length rest ≤ n →
    slice_get (flat_map (with_value i rest) (w ∷ vs)) n ≡ slice_get (flat_map (with_value i rest) vs) (n - length rest)
in_others i rest w vs n h =
    get_right (with_value i rest w) (flat_map (with_value i rest) vs) n (n - length rest) (rw (length_map (λ choice. record { iterator = i; value = w } ∷ choice) rest) (omega arith))

same_some : {A : Type 0} (x y : A) → Some x ≡ Some y → x ≡ y
same_some x y e = cc

-- the value at the quotient, and the choice of the rest at the remainder
chosen_at : (i : FormIterator) (rest : List (List Chosen)) (vs : List Value) (n : ℕ) (v : Value) → 0 < length rest → slice_get vs (n / length rest) ≡ Some v →
    slice_get (flat_map (with_value i rest) vs) n ≡ option_map (λ choice. record { iterator = i; value = v } ∷ choice) (slice_get rest (n % length rest))
chosen_at i rest [] n v some is = absurd (no_value v (slice_get [] (n / length rest)) refl is)
chosen_at i rest (w ∷ vs) n v some is = elim (cases_lt n (length rest)) [
  | inl h ↦ (
      let first : slice_get (w ∷ vs) (n / length rest) ≡ Some w = ap (slice_get (w ∷ vs)) (div-eq_of_lt h) in
      let same : w ≡ v = same_some w v (sym first ∙ is) in
      in_first i rest w vs n h
      ∙ ap (λ (x : Value). option_map (λ choice. record { iterator = i; value = x } ∷ choice) (slice_get rest n)) same
      ∙ ap (λ k. option_map (λ choice. record { iterator = i; value = v } ∷ choice) (slice_get rest k)) (sym (mod-eq_of_lt h)))
  | inr h ↦ (
      let quotient : n / length rest ≡ suc ((n - length rest) / length rest) = (let e : n / length rest ≡ (n - length rest) / length rest + 1 = div-eq-sub-div some h in omega (arith, e)) in
      let later : slice_get vs ((n - length rest) / length rest) ≡ Some v = sym (ap (slice_get (w ∷ vs)) quotient) ∙ is in
      in_others i rest w vs n h
      ∙ chosen_at i rest vs (n - length rest) v some later
      ∙ ap (λ k. option_map (λ choice. record { iterator = i; value = v } ∷ choice) (slice_get rest k)) (sym (mod-eq-sub-mod h)))
]

map_append : (xs : List Choice) (x : Choice) (rest : List Chosen) → map chosen_of xs ++ (chosen_of x ∷ rest) ≡ map chosen_of (xs ++ x ∷ []) ++ rest
map_append [] x rest = refl
map_append (y ∷ xs) x rest = ap (λ zs. chosen_of y ∷ zs) (map_append xs x rest)

fused : (front : List Choice) (chosen : Choice) (first : Chosen) (o : Option (List Chosen)) → chosen_of chosen ≡ first →
    option_map (λ rest. map chosen_of front ++ rest) (option_map (λ choice. first ∷ choice) o) ≡ option_map (λ rest. map chosen_of (front ++ chosen ∷ []) ++ rest) o
fused front chosen first None same = refl
fused front chosen first (Some rest) same = ap (λ c. Some (map chosen_of front ++ (c ∷ rest))) (sym same) ∙ ap (λ xs. Some xs) (map_append front chosen rest)

-- ---- the digits of a place, from the first on

module _ (used : List (Bor FormIterator)) (i : ℕ) (x : Bor FormIterator) (block place len : ℕ) (within : i < length used) (is : x ≡ get_or used i x) (many : len ≡ length x.now.values) (whole : block ≡ choice_count (lent (drop i used))) (below : place < block) where
  behind : ℕ
  behind = choice_count (lent (drop (i + 1) used))

  inside : place < len * choice_count (lent (drop (i + 1) used))
  inside = subst (λ k. place < k) (whole ∙ at choice_count used i x within is ∙ ap (λ k. k * choice_count (lent (drop (i + 1) used))) (sym many)) below

  -- the iterator has a value
  pub has_values : 0 < len
  has_values = left_factor len (choice_count (lent (drop (i + 1) used))) place inside

  -- the choices of the iterators behind it
  pub behind_is : block / len ≡ choice_count (lent (drop (i + 1) used))
  behind_is =
      ap (λ k. k / len) (whole ∙ at choice_count used i x within is ∙ ap (λ k. k * choice_count (lent (drop (i + 1) used))) (sym many))
      ∙ mul-div_cancel_left (choice_count (lent (drop (i + 1) used))) has_values

  pub has_rest : 0 < block / len
  has_rest = subst (λ k. 0 < k) (sym behind_is) (right_factor len (choice_count (lent (drop (i + 1) used))) place inside)

  pub within_values : place / (block / len) < length x.now.values
  within_values = subst (λ k. place / (block / len) < k) many ((div-lt_iff_lt-mul has_rest).1 (subst (λ k. place < len * k) (sym behind_is) inside))

  pub within_rest : place % (block / len) < block / len
  within_rest = mod-lt place has_rest

  -- the value at the quotient is chosen, and the choice of the rest is at the remainder
  next : (front : List Choice) (v : Bor Value) (chosen : Choice) (answer : Option (List Chosen)) → slice_get x.now.values (place / (block / len)) ≡ Some v.now → chosen_of chosen ≡ record { iterator = x.now; value = v.now } →
      option_map (λ rest. map chosen_of front ++ rest) (slice_get (choices (lent (drop i used))) place) ≡ answer →
      option_map (λ rest. map chosen_of (front ++ chosen ∷ []) ++ rest) (slice_get (choices (lent (drop (i + 1) used))) (place % (block / len))) ≡ answer
  next front v chosen answer value same h =
      let rest : List (List Chosen) = choices (lent (drop (i + 1) used)) in
      let first : Chosen = record { iterator = x.now; value = v.now } in
      let e : length rest ≡ block / len = length_choices (lent (drop (i + 1) used)) ∙ sym behind_is in
      let some : 0 < length rest = subst (λ k. 0 < k) (sym e) has_rest in
      let chosen_value : slice_get x.now.values (place / length rest) ≡ Some v.now = subst (λ k. slice_get x.now.values (place / k) ≡ Some v.now) (sym e) value in
      sym (fused front chosen first (slice_get rest (place % (block / len))) same)
      ∙ ap (λ k. option_map (λ rest. map chosen_of front ++ rest) (option_map (λ choice. first ∷ choice) (slice_get rest (place % k)))) (sym e)
      ∙ ap (λ o. option_map (λ rest. map chosen_of front ++ rest) o) (sym (chosen_at x.now rest x.now.values place v.now some chosen_value))
      ∙ ap (λ cs. option_map (λ rest. map chosen_of front ++ rest) (slice_get cs place)) (sym (at choices used i x within is))
      ∙ h

  pub found_next : (front new : List Choice) (v : Bor Value) (chosen : Choice) (answer : Option (List Chosen)) → new ≡ front ++ chosen ∷ [] → slice_get x.now.values (place / (block / len)) ≡ Some v.now → chosen_of chosen ≡ record { iterator = x.now; value = v.now } →
      option_map (λ rest. map chosen_of front ++ rest) (slice_get (choices (lent (drop i used))) place) ≡ answer →
      option_map (λ rest. map chosen_of new ++ rest) (slice_get (choices (lent (drop (i + 1) used))) (place % (block / len))) ≡ answer
  found_next front new v chosen answer e value same h = rw e (next front v chosen answer value same h)
