-- A place that does not wait is closed, all through the rounds.
use Rattle.std.proofs.Common.{◌≡◌, ◌≢◌, ℕ, ◌+◌, ◌<◌, ◌≤◌, Bool, true, false, ◌||◌, ◌&&◌, not, eqb, ltb, List, length, Option, Some, None, inl, inr, refl, sym, ap, subst, ◌∙◌, arith}
use Rattle.std.specs.Prelude.{slice_get}
use Rattle.std.proofs.lemmas.Bool.{cases_Bool, cases_eq, cases_lt, or_parts, or_from, or_right, and_from, false≢true, eq-eqb, ne_eqb, lt-ltb, le-ltb}
use Rattle.std.proofs.lemmas.Option.{same_Some, slice_get_within}
use Rattle.reg_rows.specs.Row.{has}
use Rattle.reg_rows.specs.Table.{has_at}
use Rattle.live_rows.specs.declared.node.Node.{Node}
use Rattle.live_rows.specs.Paths.{defines, is_place, leads_to}
use Rattle.live_rows.specs.machine.Rows.{at_place, passes, IsClosedAt}
use Rattle.live_rows.specs.machine.Waiting.{listed_at, waits, IsBack, IsPending, AreLeft}
use Rattle.live_rows.proofs.PathLaws.{IsVisit, visit_keeps}

-- a place that does not wait below b does not below a, if it does not between them
waits-more : (a b : ℕ) (now next : List ℕ) (q : ℕ) → (b ≤ q → q < a → has now q ≡ false) → waits b now next q ≡ false → waits a now next q ≡ false
waits-more a b now next q between idle =
    let both = or_parts (ltb q b && has now q) (has next q) idle in
    or_from (ltb q a && has now q) (has next q) (elim (cases_lt q a) [
      | inl l ↦ elim (cases_lt q b) [
        | inl m ↦ ap (λ t. t && has now q) (lt-ltb q a l) ∙ (sym (ap (λ t. t && has now q) (lt-ltb q b m)) ∙ both.0)
        | inr ge ↦ ap (λ t. t && has now q) (lt-ltb q a l) ∙ between ge l
      ]
      | inr past ↦ ap (λ t. t && has now q) (le-ltb q a past)
    ]) both.1

-- from a to b, where no place waits between
pub IsPending-down : (nodes : List Node) (rows : List (List ℕ)) (a b : ℕ) (now next : List ℕ) → ((q : ℕ) → b ≤ q → q < a → has now q ≡ false) → IsPending nodes rows a now next → IsPending nodes rows b now next
IsPending-down nodes rows a b now next none pending q node at idle = pending q node at (waits-more a b now next q (none q) idle)

pub IsPending-start : (nodes : List Node) (rows : List (List ℕ)) (n : ℕ) (now next : List ℕ) → length nodes ≤ n → AreLeft nodes rows now → IsPending nodes rows n now next
IsPending-start nodes rows n now next long left q node at idle =
    let within = slice_get_within nodes q node at in
    let l : q < n = omega arith in
    left q node at (sym (ap (λ t. t && has now q) (lt-ltb q n l)) ∙ (or_parts (ltb q n && has now q) (has next q) idle).0)

pub AreLeft-end : (nodes : List Node) (rows : List (List ℕ)) (n : ℕ) (now next : List ℕ) → n ≤ 0 → IsPending nodes rows n now next → AreLeft nodes rows next
AreLeft-end nodes rows n now next end pending q node at idle =
    let le : n ≤ q = omega arith in
    pending q node at (or_from (ltb q n && has now q) (has next q) (ap (λ t. t && has now q) (le-ltb q n le)) idle)

-- where no place is left, each is closed
pub IsClosed-none : (nodes : List Node) (rows : List (List ℕ)) (now : List ℕ) → ((q : ℕ) → has now q ≡ false) → AreLeft nodes rows now → (p : ℕ) → IsClosedAt nodes rows p
IsClosed-none nodes rows now none left p node reg at h = left p node at (none p) node reg at h

-- where all places are left, no more is asked
pub AreLeft-all : (nodes : List Node) (rows : List (List ℕ)) (now : List ℕ) → ((q : ℕ) → q < length nodes → has now q ≡ true) → AreLeft nodes rows now
AreLeft-all nodes rows now all q node at idle = absurd (false≢true (sym idle ∙ all q (slice_get_within nodes q node at)))

or_none : (a b c : Bool) → b ≡ false → (a || (b && c)) ≡ a
or_none true b c e = refl
or_none false b c e = ap (λ x. x && c) e

module _ (nodes : List Node) (old new : List (List ℕ)) (p : ℕ) (node : Node) (at : slice_get nodes p ≡ Some node) (visit : IsVisit p node old new) where
  place_other : (t : Option ℕ) (reg : ℕ) → is_place t p ≡ false → at_place t new reg ≡ at_place t old reg
  place_other None reg free = refl
  place_other (Some q) reg free = visit q reg ∙ or_none (has_at old q reg) (eqb q p) (passes node old reg) free

  -- a place that p does not follow passes the same as before
  passes_other : (i : Node) (reg : ℕ) → leads_to i p ≡ false → passes i new reg ≡ passes i old reg
  passes_other i reg free =
      let both = or_parts (is_place i.first p) (is_place i.second p) free in
      let a = place_other i.first reg both.0 in
      let b = place_other i.second reg both.1 in
      ap (λ x. (x || at_place i.second new reg) && not (defines i reg)) a ∙ ap (λ x. (at_place i.first old reg || x) && not (defines i reg)) b

  here : (i : Node) (reg : ℕ) → slice_get nodes p ≡ Some i → passes i old reg ≡ true → has_at new p reg ≡ true
  here i reg e h =
      let s : i ≡ node = same_Some i node (sym e ∙ at) in
      visit p reg ∙ or_right (has_at old p reg) (eqb p p && passes node old reg) (and_from (eqb p p) (passes node old reg) (eq-eqb p p refl) (subst (λ (n : Node). passes n old reg ≡ true) s h))

  closed_other : (q : ℕ) (j : Node) → slice_get nodes q ≡ Some j → leads_to j p ≡ false → (q ≢ p → IsClosedAt nodes old q) → IsClosedAt nodes new q
  closed_other q j there free closed i reg e h =
      let s : j ≡ i = same_Some j i (sym there ∙ e) in
      let h' : passes i old reg ≡ true = sym (passes_other i reg (subst (λ (n : Node). leads_to n p ≡ false) s free)) ∙ h in
      elim (cases_eq q p) [
        | inl k ↦ subst (λ (x : ℕ). has_at new x reg ≡ true) (sym k) (here i reg (subst (λ (x : ℕ). slice_get nodes x ≡ Some i) k e) h')
        | inr ne ↦ visit_keeps old new p node visit q reg (closed ne i reg e h')
      ]

  -- the row of p grew, and those that lead to p wait
  pub IsPending-grew : (back : List (List ℕ)) (now next now' next' : List ℕ) → IsBack nodes back → ((q : ℕ) → waits p now' next' q ≡ (waits p now next q || listed_at back p q)) → IsPending nodes old (p + 1) now next → IsPending nodes new p now' next'
  IsPending-grew back now next now' next' is each pending q j there idle =
      closed_other q j there free (λ ne. pending q j there (waits-more (p + 1) p now next q (λ le l. absurd (omega (arith, ne, le, l))) both.0))
    where
      both : (waits p now next q ≡ false) × (listed_at back p q ≡ false)
      both = or_parts (waits p now next q) (listed_at back p q) (sym (each q) ∙ idle)

      free : leads_to j p ≡ false
      free = elim (cases_Bool (leads_to j p)) [
        | inl t ↦ absurd (false≢true (sym both.1 ∙ is.each p q j (slice_get_within nodes p node at) there t))
        | inr f ↦ f
      ]

  -- the row of p was visited and is the same
  pub IsPending-same : (now next : List ℕ) → new ≡ old → IsPending nodes old (p + 1) now next → IsPending nodes new p now next
  IsPending-same now next same pending q j there idle =
      elim (cases_eq q p) [
        | inl k ↦ subst (λ (x : ℕ). IsClosedAt nodes new x) (sym k) (λ i reg e h. here i reg e (subst (λ (rows : List (List ℕ)). passes i rows reg ≡ true) same h))
        | inr ne ↦ subst (λ (rows : List (List ℕ)). IsClosedAt nodes rows q) (sym same) (pending q j there (waits-more (p + 1) p now next q (λ le l. absurd (omega (arith, ne, le, l))) idle))
      ]

-- p did not wait in this round
pub IsPending-skip : (nodes : List Node) (rows : List (List ℕ)) (p : ℕ) (now next : List ℕ) → has now p ≡ false → IsPending nodes rows (p + 1) now next → IsPending nodes rows p now next
IsPending-skip nodes rows p now next none pending =
    IsPending-down nodes rows (p + 1) p now next (λ q le l. (let e : q ≡ p = omega (arith, le, l) in ap (has now) e ∙ none)) pending

-- ---- one place more

pub put_now : (l h n e : Bool) → (e ≡ true → l ≡ true) → ((l && (h || e)) || n) ≡ (((l && h) || n) || e)
put_now true true n e f = refl
put_now true false true true f = refl
put_now true false true false f = refl
put_now true false false e f = or_nil e
  where
    or_nil : (b : Bool) → (b || false) ≡ b
    or_nil true = refl
    or_nil false = refl
put_now false h n true f = absurd (false≢true (f refl))
put_now false h true false f = refl
put_now false h false false f = refl

pub put_next : (l n e : Bool) → (l || (n || e)) ≡ ((l || n) || e)
put_next true n e = refl
put_next false n e = refl
