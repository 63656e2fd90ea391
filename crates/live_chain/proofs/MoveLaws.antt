-- Lists with one window in the place of another: where what is outside the window stands.
use Rattle.std.proofs.Common.{◌≡◌, ℕ, zero, suc, ◌+◌, ◌<◌, Bool, true, false, cond, List, [], ◌∷◌, ◌++◌, length, Some, inl, inr, ◌⊎◌, ◌-◌, ◌||◌, refl, sym, ap, subst, ◌∙◌, arith}
use Rattle.std.specs.Prelude.{slice_get}
use Rattle.std.specs.List.{position_from, list_any}
use Rattle.std.proofs.lemmas.Bool.{cases_lt, or_left, true≢false}
use Rattle.std.proofs.lemmas.Option.{none-some, same_Some}

-- a place in front of a window stays, and one behind it moves by what the windows differ in length
pub data IsMoved (front old new : ℕ) : ℕ → ℕ → Type 0 where
  ahead : (p : ℕ) → p < front → IsMoved front old new p p
  behind : (k : ℕ) → IsMoved front old new (front + (old + k)) (front + (new + k))

pub IsMoved-back : (front old new p q : ℕ) → IsMoved front old new p q → IsMoved front new old q p
IsMoved-back front old new _ _ (ahead p l) = ahead p l
IsMoved-back front old new _ _ (behind k) = behind k

-- a place is in front of the window, in it, or behind it
pub place_cases : (front n p : ℕ) → (p < front) ⊎ (((k : ℕ) × (k < n) × (p ≡ front + k)) ⊎ ((k : ℕ) × (p ≡ front + (n + k))))
place_cases front n p =
    elim (cases_lt p front) [
      | inl l ↦ inl l
      | inr ge ↦ elim (cases_lt p (front + n)) [
        | inl l ↦ inr (inl (p - front, omega arith, omega arith))
        | inr past ↦ inr (inr (p - (front + n), omega arith))
      ]
    ]

-- ---- elements

module _ {X : Type 0} where
  pub get_ahead : (xs ys : List X) (p : ℕ) → p < length xs → slice_get (xs ++ ys) p ≡ slice_get xs p
  get_ahead [] ys p l = absurd (omega arith)
  get_ahead (x ∷ xs) ys zero l = refl
  get_ahead (x ∷ xs) ys (suc p) l = get_ahead xs ys p (omega arith)

  pub get_from : (xs ys : List X) (k : ℕ) → slice_get (xs ++ ys) (length xs + k) ≡ slice_get ys k
  get_from [] ys k = ap (slice_get ys) (omega arith)
  get_from (x ∷ xs) ys k = ap (slice_get (x ∷ (xs ++ ys))) {x = suc (length xs) + k} {y = suc (length xs + k)} (omega arith) ∙ get_from xs ys k

  -- outside the window each element is where it moved
  pub get_moved : (front old new back : List X) (p q : ℕ) → IsMoved (length front) (length old) (length new) p q → slice_get (front ++ (old ++ back)) p ≡ slice_get (front ++ (new ++ back)) q
  get_moved front old new back _ _ (ahead p l) = get_ahead front (old ++ back) p l ∙ sym (get_ahead front (new ++ back) p l)
  get_moved front old new back _ _ (behind k) =
      (get_from front (old ++ back) (length old + k) ∙ get_from old back k) ∙
      sym (get_from front (new ++ back) (length new + k) ∙ get_from new back k)

  pub get_inside : (front window back : List X) (k : ℕ) → k < length window → slice_get (front ++ (window ++ back)) (length front + k) ≡ slice_get window k
  get_inside front window back k l = get_from front (window ++ back) k ∙ get_ahead window back k l

-- ---- the first that passes a test, where none of the window's does

module _ {X : Type 0} (test : X → Bool) where
  -- where it stands in a list whose first place is another
  pub position_moved : (xs : List X) (a b q : ℕ) → position_from test a xs ≡ Some q → (k : ℕ) × (q ≡ a + k) × (position_from test b xs ≡ Some (b + k))
  position_moved [] a b q e = absurd (none-some q e)
  position_moved (x ∷ xs) a b q e = by (position_moved xs (a + 1) (b + 1) q) (test x) refl
    where
      by : (position_from test (a + 1) xs ≡ Some q → (k : ℕ) × (q ≡ a + 1 + k) × (position_from test (b + 1) xs ≡ Some (b + 1 + k))) →
          (t : Bool) → test x ≡ t → (k : ℕ) × (q ≡ a + k) × (cond (test x) (Some b) (position_from test (b + 1) xs) ≡ Some (b + k))
      by later true is =
          let same : a ≡ q = same_Some a q (sym (ap (λ t. cond t (Some a) (position_from test (a + 1) xs)) is) ∙ e) in
          (0, omega (arith, same), ap (λ t. cond t (Some b) (position_from test (b + 1) xs)) is ∙ ap Some (omega arith))
      by later false is =
          let rest = later (sym (ap (λ t. cond t (Some a) (position_from test (a + 1) xs)) is) ∙ e) in
          (rest.0 + 1, omega (arith, rest.1), ap (λ t. cond t (Some b) (position_from test (b + 1) xs)) is ∙ (rest.2 ∙ ap Some (omega arith)))

  pub position_past : (xs ys : List X) (a : ℕ) → list_any test xs ≡ false → position_from test a (xs ++ ys) ≡ position_from test (a + length xs) ys
  position_past [] ys a none = ap (λ n. position_from test n ys) (omega arith)
  position_past (x ∷ xs) ys a none = by (position_past xs ys (a + 1)) (test x) refl none
    where
      by : (list_any test xs ≡ false → position_from test (a + 1) (xs ++ ys) ≡ position_from test (a + 1 + length xs) ys) →
          (t : Bool) → test x ≡ t → (test x || list_any test xs) ≡ false → cond (test x) (Some a) (position_from test (a + 1) (xs ++ ys)) ≡ position_from test (a + suc (length xs)) ys
      by later true is none = absurd (true≢false (sym (or_left (test x) (list_any test xs) is) ∙ none))
      by later false is none =
          ap (λ t. cond t (Some a) (position_from test (a + 1) (xs ++ ys))) is ∙
          (later (sym (ap (λ t. t || list_any test xs) is) ∙ none) ∙ ap (λ n. position_from test n ys) (omega arith))

  -- the first that passes stands in a list, or is the first of what follows it
  pub position_cases : (xs ys : List X) (a q : ℕ) → position_from test a (xs ++ ys) ≡ Some q →
      ((q < a + length xs) × ((zs : List X) → position_from test a (xs ++ zs) ≡ Some q)) ⊎ (((zs : List X) → position_from test a (xs ++ zs) ≡ position_from test (a + length xs) zs) × (position_from test (a + length xs) ys ≡ Some q))
  position_cases [] ys a q e = inr ((λ zs. ap (λ n. position_from test n zs) (omega arith)), ap (λ n. position_from test n ys) (omega arith) ∙ e)
  position_cases (x ∷ xs) ys a q e = by (position_cases xs ys (a + 1) q) (test x) refl
    where
      one : (zs : List X) (t : Bool) → test x ≡ t → position_from test a (x ∷ (xs ++ zs)) ≡ cond t (Some a) (position_from test (a + 1) (xs ++ zs))
      one zs t is = ap (λ t. cond t (Some a) (position_from test (a + 1) (xs ++ zs))) is

      by : (position_from test (a + 1) (xs ++ ys) ≡ Some q →
          ((q < a + 1 + length xs) × ((zs : List X) → position_from test (a + 1) (xs ++ zs) ≡ Some q)) ⊎ (((zs : List X) → position_from test (a + 1) (xs ++ zs) ≡ position_from test (a + 1 + length xs) zs) × (position_from test (a + 1 + length xs) ys ≡ Some q))) →
          (t : Bool) → test x ≡ t →
          ((q < a + suc (length xs)) × ((zs : List X) → position_from test a (x ∷ (xs ++ zs)) ≡ Some q)) ⊎ (((zs : List X) → position_from test a (x ∷ (xs ++ zs)) ≡ position_from test (a + suc (length xs)) zs) × (position_from test (a + suc (length xs)) ys ≡ Some q))
      by later true is =
          let same : a ≡ q = same_Some a q (sym (one ys true is) ∙ e) in
          inl (omega (arith, same), λ zs. one zs true is ∙ ap Some same)
      by later false is =
          let shift : (zs : List X) → position_from test (a + 1 + length xs) zs ≡ position_from test (a + suc (length xs)) zs = λ zs. ap (λ n. position_from test n zs) (omega arith) in
          elim (later (sym (one ys false is) ∙ e)) [
            | inl w ↦ inl (omega (arith, w.0), λ zs. one zs false is ∙ w.1 zs)
            | inr w ↦ inr ((λ zs. one zs false is ∙ (w.0 zs ∙ shift zs)), sym (shift ys) ∙ w.1)
          ]

  -- the first that passes moves with what is outside
  pub first_moved : (front old new back : List X) (q : ℕ) → list_any test old ≡ false → list_any test new ≡ false → position_from test 0 (front ++ (old ++ back)) ≡ Some q →
      (r : ℕ) × IsMoved (length front) (length old) (length new) q r × (position_from test 0 (front ++ (new ++ back)) ≡ Some r)
  first_moved front old new back q none_old none_new e =
      elim (position_cases front (old ++ back) 0 q e) [
        | inl w ↦ (q, ahead q (omega (arith, w.0)), w.1 (new ++ back))
        | inr w ↦
            let later = position_moved back (length front + length old) (length front + length new) q (sym (position_past old back (length front) none_old) ∙ (ap (λ n. position_from test n (old ++ back)) (omega arith) ∙ w.1)) in
            let at : q ≡ length front + (length old + later.0) = omega (arith, later.1) in
            let there : length front + length new + later.0 ≡ length front + (length new + later.0) = omega arith in (
              length front + (length new + later.0),
              subst (λ q. IsMoved (length front) (length old) (length new) q (length front + (length new + later.0))) (sym at) (behind later.0),
              w.0 (new ++ back) ∙ (ap (λ n. position_from test n (new ++ back)) (omega arith) ∙ (position_past new back (length front) none_new ∙ (later.2 ∙ ap Some there))),
            )
      ]
