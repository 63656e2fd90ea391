-- The weights of places, one behind the other.
use Rattle.std.proofs.Common.{◌≡◌, ◌⊎◌, ⊎_elim, inl, inr, ℕ, zero, suc, ◌+◌, ◌-◌, ◌^◌, ◌<◌, ◌≤◌, min, List, [], ◌∷◌, length, set, get_or, replicate, sum_by, slice_get, Some, refl, sym, ap, subst, ◌∙◌, arith}
use Rattle.std.proofs.lemmas.Bool.{cases_lt}
use Rattle.std.proofs.lemmas.List.{length-set, length-replicate, get_or-set_same, get_or-set_other}
use Rattle.std.proofs.lemmas.List.Sums.{sum_by-cons}
use Rattle.std.proofs.lemmas.Option.{slice_get_within, slice_get-get_or}
use Rattle.ask_order.specs.Order.{asked_at, Asks, IsOrder, weight_at, weighs, AreWeights}

sums_same : (ws vs places : List ℕ) → ((i r : ℕ) → slice_get places i ≡ Some r → weight_at ws r ≡ weight_at vs r) → sum_by (weight_at ws) places ≡ sum_by (weight_at vs) places
sums_same ws vs [] same = refl
sums_same ws vs (p ∷ ps) same =
    sum_by-cons (weight_at ws) p ps ∙ (ap (λ (n : ℕ). n + sum_by (weight_at ws) ps) (same zero p refl) ∙
    (ap (λ (n : ℕ). weight_at vs p + n) (sums_same ws vs ps (λ i r is. same (suc i) r is)) ∙ sym (sum_by-cons (weight_at vs) p ps)))

weighs_same : (ws vs places : List ℕ) → ((i r : ℕ) → slice_get places i ≡ Some r → weight_at ws r ≡ weight_at vs r) → weighs ws places ≡ weighs vs places
weighs_same ws vs places same = ap (λ (n : ℕ). min (1 + n) (2 ^ 32 - 1)) (sums_same ws vs places same)

one_or_other : (p q : ℕ) → (q ≡ p) ⊎ (q ≡ p → ⊥)
one_or_other p q = ⊎_elim
    (λ (below : q < p). inr (λ same. omega (arith, below, same)))
    (λ reached. ⊎_elim (λ (above : p < q). inr (λ same. omega (arith, above, same))) (λ back. inl (omega (arith, reached, back))) (cases_lt p q))
    (cases_lt q p)

-- the places of an order up to one have their weights
pub record Weighed (asked : List (List ℕ)) (order weights : List ℕ) (upto : ℕ) : Type 0 where
  pub long : length weights ≡ length asked
  pub each : (at place : ℕ) → at < upto → slice_get order at ≡ Some place →
      weight_at weights place ≡ weighs weights (asked_at asked place)

module _ (asked : List (List ℕ)) (order : List ℕ) (is_order : IsOrder asked order) where
  module _ (ws : List ℕ) (k p w : ℕ) (at : slice_get order k ≡ Some p) (weighed : Weighed asked order ws k) where
    abbrev now : List ℕ
    now = set ws p w

    inside : p < length ws
    inside = subst (λ (n : ℕ). p < n) (sym weighed.long) (is_order.there p (k, at))

    same_else : (r : ℕ) → (r ≡ p → ⊥) → weight_at ws r ≡ weight_at now r
    same_else r other = sym (get_or-set_other ws p r w 0 other)

    -- what is asked by a place up to there is another
    not_asked : (j q i r : ℕ) → j ≤ k → slice_get order j ≡ Some q → slice_get (asked_at asked q) i ≡ Some r → r ≡ p → ⊥
    not_asked j q i r upto here asks same =
        let asks' : Asks asked q p = record { asks = (i, asks ∙ ap Some same); there = is_order.there p (k, at) } in
        let before = is_order.behind j q p here asks' in
        let one : before.0 ≡ k = is_order.once before.0 k p before.2 at in
        omega (arith, upto, before.1, one)

    same_weighs : (j q : ℕ) → j ≤ k → slice_get order j ≡ Some q → weighs ws (asked_at asked q) ≡ weighs now (asked_at asked q)
    same_weighs j q upto here = weighs_same ws now (asked_at asked q) (λ i r asks. same_else r (not_asked j q i r upto here asks))

    pub weighed_next : w ≡ weighs ws (asked_at asked p) → Weighed asked order (set ws p w) (k + 1)
    weighed_next is = record {
      long = length-set ws p w ∙ weighed.long;
      each = λ j q below here. ⊎_elim
          (λ (before : j < k).
          let other : q ≡ p → ⊥ = (λ same. let one : j ≡ k = is_order.once j k p (here ∙ ap Some same) at in omega (arith, before, one)) in
          sym (same_else q other) ∙ (weighed.each j q before here ∙ same_weighs j q (omega (arith, before)) here))
          (λ reached.
          let last : j ≡ k = omega (arith, below, reached) in
          let same : p ≡ q = same_some p q (sym at ∙ subst (λ (n : ℕ). slice_get order n ≡ Some q) last here) in
          subst (λ (n : ℕ). weight_at now n ≡ weighs now (asked_at asked n)) same
          (get_or-set_same ws p w 0 inside ∙ (is ∙ same_weighs k p (omega arith) at)))
          (cases_lt j k);
    }
      where
        same_some : (a b : ℕ) → Some a ≡ Some b → a ≡ b
        same_some a b e = cc

  pub weighed_first : (ws : List ℕ) (n : ℕ) → n ≡ length asked → ws ≡ replicate n 0 → Weighed asked order ws 0
  weighed_first ws n long is = record {
    long = ap (λ (l : List ℕ). length l) is ∙ (length-replicate n 0 ∙ long);
    each = λ at place below here. absurd (omega (arith, below));
  }

  -- behind one more of the order, as it is read
  pub weighed_on : (ws more read : List ℕ) (k w : ℕ) → Weighed asked order ws k → k < length order → read ≡ ws → w ≡ weighs read (asked_at asked (get_or order k 0)) → more ≡ set ws (get_or order k 0) w → Weighed asked order more (k + 1)
  weighed_on ws more read k w weighed within seen is put =
      subst (λ (l : List ℕ). Weighed asked order l (k + 1)) (sym put)
      (weighed_next ws k (get_or order k 0) w (slice_get-get_or order k 0 within) weighed (is ∙ ap (λ (l : List ℕ). weighs l (asked_at asked (get_or order k 0))) seen))

  pub place_within : (ws : List ℕ) (k : ℕ) → Weighed asked order ws k → k < length order → get_or order k 0 < length ws
  place_within ws k weighed within = subst (λ (n : ℕ). get_or order k 0 < n) (sym weighed.long) (is_order.there (get_or order k 0) (k, slice_get-get_or order k 0 within))

  pub all_weighed : (ws : List ℕ) (k : ℕ) → length order ≤ k → Weighed asked order ws k → AreWeights asked order ws
  all_weighed ws k all weighed = record {
    long = weighed.long;
    each = λ place stands. weighed.each stands.0 place (let within = slice_get_within order stands.0 place stands.1 in omega (arith, within, all)) stands.1;
  }
