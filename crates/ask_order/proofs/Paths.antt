-- The places on the way to the one that is looked at, each asked by the one before.
use Rattle.std.proofs.Common.{◌≡◌, ℕ, ◌+◌, ◌<◌, ◌≤◌, Bool, true, false, List, [], ◌∷◌, ◌++◌, length, set, slice_get, find, Some, None, sym, ap, subst, ◌∙◌, arith}
use Rattle.std.proofs.lemmas.List.{length_push}
use Rattle.ask_order.specs.Order.{asked_at, Asks, IsLayered}
use Rattle.ask_order.specs.machine.Search.{is_open, IsKept, StaysMarked, Goes}
use Rattle.ask_order.proofs.Lists.{kept_at, found_in}
use Rattle.ask_order.proofs.Marks.{open_within, stays_marked, put_kept}

abbrev pub Linked : List (List ℕ) → List ℕ → Type 0
Linked asked [] = Unit {0}
Linked asked (p ∷ []) = Unit {0}
Linked asked (p ∷ q ∷ qs) = Asks asked p q × Linked asked (q ∷ qs)

-- where the search stands
pub record Searches (asked : List (List ℕ)) (root : ℕ) (old known : List Bool) (order stack : List ℕ) (place : ℕ) : Type 0 where
  pub kept : IsKept asked known order
  pub stays : StaysMarked old known
  pub linked : Linked asked (stack ++ place ∷ [])
  pub starts : slice_get (stack ++ place ∷ []) 0 ≡ Some root
  pub short : length stack ≤ length asked

module _ (asked : List (List ℕ)) where
  pub link_before : (xs : List ℕ) (y : ℕ) → Linked asked (xs ++ y ∷ []) → Linked asked xs
  link_before [] y links = tt
  link_before (x ∷ []) y links = tt
  link_before (x ∷ z ∷ zs) y links = (links.0, link_before (z ∷ zs) y links.1)

  pub link_more : (xs : List ℕ) (t q : ℕ) → Linked asked (xs ++ t ∷ []) → Asks asked t q → Linked asked ((xs ++ t ∷ []) ++ q ∷ [])
  link_more [] t q links asks = (asks, tt)
  link_more (x ∷ []) t q links asks = (links.0, (asks, tt))
  link_more (x ∷ z ∷ zs) t q links asks = (links.0, link_more (z ∷ zs) t q links.1 asks)

  head_before : (xs : List ℕ) (p c root : ℕ) → slice_get ((xs ++ p ∷ []) ++ c ∷ []) 0 ≡ Some root → slice_get (xs ++ p ∷ []) 0 ≡ Some root
  head_before [] p c root is = is
  head_before (x ∷ xs) p c root is = is

  long_falls : (number : ℕ → ℕ) → IsLayered asked number → (x : ℕ) (xs : List ℕ) → Linked asked (x ∷ xs) → length xs ≤ number x
  long_falls number layered x [] links = omega arith
  long_falls number layered x (y ∷ ys) links =
      let rest = long_falls number layered y ys links.1 in
      let falls = layered.falls x y links.0 in
      omega (arith, rest, falls)

  -- a way as long as there are places leads to itself
  too_long : (number : ℕ → ℕ) → IsLayered asked number → (root : ℕ) → root < length asked → (stack : List ℕ) (place : ℕ) →
      Linked asked (stack ++ place ∷ []) → slice_get (stack ++ place ∷ []) 0 ≡ Some root → length asked ≤ length stack → ⊥
  too_long number layered root there [] place links starts long = omega (arith, there, long)
  too_long number layered root there (x ∷ xs) place links starts long =
      let first : x ≡ root = cc in
      let falls = long_falls number layered x (xs ++ place ∷ []) links in
      let more : length (xs ++ place ∷ []) ≡ length xs + 1 = length_push xs place in
      let small : number x < length asked = layered.small x (subst (λ (n : ℕ). n < length asked) (sym first) there) in
      omega (arith, falls, more, small, long)

  module _ (root : ℕ) (old : List Bool) where
    -- the way back
    pub goes_back : (known : List Bool) (order stack rest : List ℕ) (place before : ℕ) → Searches asked root old known order stack place →
        stack ≡ rest ++ before ∷ [] → Searches asked root old known order rest before
    goes_back known order stack rest place before at is =
        let linked : Linked asked ((rest ++ before ∷ []) ++ place ∷ []) = subst (λ (s : List ℕ). Linked asked (s ++ place ∷ [])) is at.linked in
        let starts : slice_get ((rest ++ before ∷ []) ++ place ∷ []) 0 ≡ Some root = subst (λ (s : List ℕ). slice_get (s ++ place ∷ []) 0 ≡ Some root) is at.starts in
        let long : length stack ≡ length rest + 1 = ap (λ (s : List ℕ). length s) is ∙ length_push rest before in
        record {
          kept = at.kept;
          stays = at.stays;
          linked = link_before (rest ++ before ∷ []) place linked;
          starts = head_before rest before place root starts;
          short = omega (arith, at.short, long);
        }

    -- a step on to a place that is asked
    pub goes_on : (known : List Bool) (order stack : List ℕ) (place next : ℕ) → Searches asked root old known order stack place →
        find (is_open known) (asked_at asked place) ≡ Some next → length stack < length asked → Searches asked root old known order (stack ++ place ∷ []) next
    goes_on known order stack place next at is few =
        let found = found_in (is_open known) (asked_at asked place) next is in
        let there : next < length asked = subst (λ (n : ℕ). next < n) at.kept.long (open_within known next found.1) in
        let asks : Asks asked place next = record { asks = found.0; there = there } in
        let long : length (stack ++ place ∷ []) ≡ length stack + 1 = length_push stack place in
        record {
          kept = at.kept;
          stays = at.stays;
          linked = link_more stack place next at.linked asks;
          starts = kept_at (stack ++ place ∷ []) (next ∷ []) 0 root at.starts;
          short = omega (arith, few, long);
        }

    -- a place is marked and put into the order
    pub goes_down : (known : List Bool) (order more stack : List ℕ) (place : ℕ) → Searches asked root old known order stack place → is_open known place ≡ true →
        find (is_open known) (asked_at asked place) ≡ None → more ≡ order ++ place ∷ [] → Searches asked root old (set known place true) more stack place
    goes_down known order more stack place at unmarked none is = record {
      kept = subst (IsKept asked (set known place true)) (sym is) (put_kept asked known order place at.kept unmarked none);
      stays = λ q marked. stays_marked known place (open_within known place unmarked) q (at.stays q marked);
      linked = at.linked;
      starts = at.starts;
      short = at.short;
    }

    -- there is no way back from the first
    pub ends : (known : List Bool) (order stack : List ℕ) (place : ℕ) → Searches asked root old known order stack place → stack ≡ [] → is_open known place ≡ false → Goes asked root old known order
    ends known order stack place at none marked =
        let starts : slice_get (place ∷ []) 0 ≡ Some root = subst (λ (s : List ℕ). slice_get (s ++ place ∷ []) 0 ≡ Some root) none at.starts in
        let same : place ≡ root = cc in
        record {
          kept = at.kept;
          stays = at.stays;
          there = λ number layered there. subst (λ (n : ℕ). is_open known n ≡ false) same marked;
        }

    -- a way that is too long
    pub gives_up : (known : List Bool) (order stack : List ℕ) (place : ℕ) → Searches asked root old known order stack place → length asked ≤ length stack → Goes asked root old known order
    gives_up known order stack place at long = record {
      kept = at.kept;
      stays = at.stays;
      there = λ number layered there. absurd (too_long number layered root there stack place at.linked at.starts long);
    }
