-- A place that is marked and put into the order.
use Rattle.std.proofs.Common.{◌≡◌, ◌⊎◌, ⊎_elim, inl, inr, ℕ, ◌<◌, ◌≤◌, Bool, true, false, not, List, [], ◌∷◌, ◌++◌, length, set, replicate, slice_get, find, Some, None, sym, ap, subst, ◌∙◌, arith}
use Rattle.std.proofs.lemmas.Bool.{cases_lt}
use Rattle.std.proofs.lemmas.List.{length-set, length-replicate, get_or_past, get_or-set_same, get_or-set_other, get_or-replicate}
use Rattle.std.proofs.lemmas.Option.{slice_get_within}
use Rattle.ask_order.specs.Order.{asked_at, StandsIn, Asks, IsBehind, IsOnce, IsLayered, IsOrder}
use Rattle.ask_order.specs.machine.Search.{is_open, IsKept, StaysMarked}
use Rattle.ask_order.proofs.Lists.{one_more, kept_at, at_end, stands_still, none_passes}

pub open_within : (known : List Bool) (p : ℕ) → is_open known p ≡ true → p < length known
open_within known p unmarked = ⊎_elim
    (λ (within : p < length known). within)
    (λ past. absurd (let both : not true ≡ true = sym (ap not (get_or_past known p true past)) ∙ unmarked in let no : ⊥ = cc in no))
    (cases_lt p (length known))

pub marked_self : (known : List Bool) (p : ℕ) → p < length known → is_open (set known p true) p ≡ false
marked_self known p within = ap not (get_or-set_same known p true true within)

marked_other : (known : List Bool) (p q : ℕ) → (q ≡ p → ⊥) → is_open (set known p true) q ≡ is_open known q
marked_other known p q other = ap not (get_or-set_other known p q true true other)

one_or_other : (p q : ℕ) → (q ≡ p) ⊎ (q ≡ p → ⊥)
one_or_other p q = ⊎_elim
    (λ (below : q < p). inr (λ same. omega (arith, below, same)))
    (λ reached. ⊎_elim (λ (above : p < q). inr (λ same. omega (arith, above, same))) (λ back. inl (omega (arith, reached, back))) (cases_lt p q))
    (cases_lt q p)

was_marked : (known : List Bool) (p q : ℕ) → is_open (set known p true) q ≡ false → (q ≡ p) ⊎ (is_open known q ≡ false)
was_marked known p q marked = ⊎_elim
    (λ (same : q ≡ p). inl same)
    (λ other. inr (sym (marked_other known p q other) ∙ marked))
    (one_or_other p q)

pub stays_marked : (known : List Bool) (p : ℕ) → p < length known → StaysMarked known (set known p true)
stays_marked known p within q marked = ⊎_elim
    (λ (same : q ≡ p). subst (λ (n : ℕ). is_open (set known p true) n ≡ false) (sym same) (marked_self known p within))
    (λ other. marked_other known p q other ∙ marked)
    (one_or_other p q)

module _ (asked : List (List ℕ)) (known : List Bool) (order : List ℕ) (place : ℕ) (kept : IsKept asked known order) (unmarked : is_open known place ≡ true) (none : find (is_open known) (asked_at asked place) ≡ None) where
  behind_them : IsBehind asked (order ++ place ∷ [])
  behind_them at p other is asks = ⊎_elim
      (λ (before : (at < length order) × (slice_get order at ≡ Some p)).
      let found = kept.behind at p other before.1 asks in (found.0, found.1, kept_at order (place ∷ []) found.0 other found.2))
      (λ last.
      let here : Asks asked place other = subst (λ (n : ℕ). Asks asked n other) (sym last.1) asks in
      let stands : StandsIn order other = kept.marked other here.there (none_passes (is_open known) (asked_at asked place) none here.asks.0 other here.asks.1) in
      let within : stands.0 < length order = slice_get_within order stands.0 other stands.1 in
      (stands.0, omega (arith, within, last.0), kept_at order (place ∷ []) stands.0 other stands.1))
      (one_more order place at p is)

  -- it didn't stand there
  is_new : (at : ℕ) → slice_get order at ≡ Some place → ⊥
  is_new at is = let both : false ≡ true = sym (kept.settled place (at, is)).1 ∙ unmarked in let no : ⊥ = cc in no

  once_more : IsOnce (order ++ place ∷ [])
  once_more a b p here there = ⊎_elim
      (λ (first : (a < length order) × (slice_get order a ≡ Some p)). ⊎_elim
      (λ (second : (b < length order) × (slice_get order b ≡ Some p)). kept.once a b p first.1 second.1)
      (λ last. absurd (is_new a (first.1 ∙ ap Some (sym last.1))))
      (one_more order place b p there))
      (λ last. ⊎_elim
      (λ (second : (b < length order) × (slice_get order b ≡ Some p)). absurd (is_new b (second.1 ∙ ap Some (sym last.1))))
      (λ also. last.0 ∙ sym also.0)
      (one_more order place b p there))
      (one_more order place a p here)

  within : place < length asked
  within = subst (λ (n : ℕ). place < n) kept.long (open_within known place unmarked)

  settles : (q : ℕ) → StandsIn (order ++ place ∷ []) q → (q < length asked) × (is_open (set known place true) q ≡ false)
  settles q stands = ⊎_elim
      (λ (before : (stands.0 < length order) × (slice_get order stands.0 ≡ Some q)).
      let was = kept.settled q (stands.0, before.1) in (was.0, stays_marked known place (open_within known place unmarked) q was.1))
      (λ last. subst (λ (n : ℕ). (n < length asked) × (is_open (set known place true) n ≡ false)) last.1 (within, marked_self known place (open_within known place unmarked)))
      (one_more order place stands.0 q stands.1)

  pub put_kept : IsKept asked (set known place true) (order ++ place ∷ [])
  put_kept = record {
    long = length-set known place true ∙ kept.long;
    marked = λ q there marked. ⊎_elim
        (λ (same : q ≡ place). subst (StandsIn (order ++ place ∷ [])) (sym same) (length order, at_end order place))
        (λ was. stands_still order (place ∷ []) q (kept.marked q there was))
        (was_marked known place q marked);
    behind = behind_them;
    once = once_more;
    settled = settles;
  }

-- where each is marked that can be, the order is whole
pub finished : (asked : List (List ℕ)) (known : List Bool) (order seen : List ℕ) (end : ℕ) → IsKept asked known order →
    ((number : ℕ → ℕ) → IsLayered asked number → (place : ℕ) → place < end → place < length asked → is_open known place ≡ false) →
    length asked ≤ end → seen ≡ order → IsOrder asked seen
finished asked known order seen end kept done all is = subst (IsOrder asked) (sym is) (record {
  there = λ place stands. (kept.settled place stands).0;
  once = kept.once;
  behind = kept.behind;
  whole = λ number layered place there. kept.marked place there (done number layered place (omega (arith, there, all)) there);
})

-- ---- at first none is marked

open_at_first : (n p : ℕ) → p < n → is_open (replicate n false) p ≡ true
open_at_first n p within = ap not (get_or-replicate n p false true within)

none_in : (at place : ℕ) → slice_get [] at ≡ Some place → ⊥
none_in at place is = let no : ⊥ = cc in no

pub kept_at_first : (asked : List (List ℕ)) (n : ℕ) (known : List Bool) (order : List ℕ) → n ≡ length asked → known ≡ replicate n false → order ≡ [] → IsKept asked known order
kept_at_first asked n known order long is none = record {
  long = ap (λ (ks : List Bool). length ks) is ∙ (length-replicate n false ∙ long);
  marked = λ place there marked. absurd (
      let unmarked : is_open known place ≡ true = subst (λ (ks : List Bool). is_open ks place ≡ true) (sym is) (open_at_first n place (subst (λ (m : ℕ). place < m) (sym long) there)) in
      let both : true ≡ false = sym unmarked ∙ marked in let no : ⊥ = cc in no);
  behind = λ at place other here asks. absurd (
      none_in at place (subst (λ (os : List ℕ). slice_get os at ≡ Some place) none here));
  once = λ a b place here there. absurd (none_in a place (subst (λ (os : List ℕ). slice_get os a ≡ Some place) none here));
  settled = λ place stands. absurd (none_in stands.0 place (subst (λ (os : List ℕ). slice_get os stands.0 ≡ Some place) none stands.1));
}
