-- What asks for the registers that are fetched before an instruction: each asks once, and is one that asks for a register.
use Rattle.std.proofs.Common.{◌≡◌, ◌≢◌, ℕ, suc, ◌+◌, ◌<◌, ◌≤◌, ◌&&◌, not, Bool, true, false, List, [], ◌∷◌, ◌++◌, slice_get, Some, refl, sym, ap, subst, ◌∙◌, arith}
use Rattle.std.proofs.lemmas.Bool.{and_parts, and_from}
use Rattle.std.proofs.lemmas.Bool.Decides.{nat_tests}
use Rattle.std.proofs.lemmas.Map.Keys.{any_passes_from_place}
use Rattle.std.specs.List.{flat_map}
use Rattle.std.specs.Prelude.{if◌then◌else◌, nat_lt, ◌==◌, ◌||◌}
use Rattle.reload_moves.specs.declared.ask.Ask.{Ask}
use Rattle.reload_moves.specs.declared.ask.What.TheVariants.{Own, StayingBase, ResultBase, StayingFar}
use Rattle.reload_moves.specs.declared.part.Part.{Part}
use Rattle.reload_moves.specs.Moves.{is_in_front, any_in_front, comes_in, comes_in_first, stays_based, stays_based_first, stays_far_first, loads_base}
use Rattle.reload_moves.specs.Registers.{ask, is_asked, holds_base, base_ask, is_result, stays_far, asks_of}
use Rattle.reload_moves.proofs.AskLaws.{own_asked, base_asked, far_asked}

-- ---- what is fetched

-- a base that goes into a register of its own
abbrev pub fetches_base : List Part → Part → Bool
fetches_base parts p = loads_base parts p && holds_base p

abbrev pub if_asked : Bool → Ask → List Ask
if_asked needed a = if needed then a ∷ [] else []

-- in an operand's turn
abbrev pub turn_asks : List Part → Part → List Ask
turn_asks parts p = if_asked (fetches_base parts p) (base_ask p) ++ if_asked (comes_in_first parts p) (ask Own p.holder)

-- the far base of what stays
abbrev pub far_asks : List Part → Part → List Ask
far_asks parts p = if_asked (stays_far_first parts p) (ask StayingFar p.holder)

abbrev pub asks_before : List Part → List Ask
asks_before parts = flat_map (turn_asks parts) parts ++ flat_map (far_asks parts) parts

-- ---- lists of what asks

abbrev pub Each : (Ask → Type 0) → List Ask → Type 0
Each P [] = Unit {0}
Each P (a ∷ xs) = P a × Each P xs

abbrev pub AreOnce : List Ask → Type 0
AreOnce [] = Unit {0}
AreOnce (a ∷ xs) = Each (λ b. a ≢ b) xs × AreOnce xs

pub each_both : (P : Ask → Type 0) (xs ys : List Ask) → Each P xs → Each P ys → Each P (xs ++ ys)
each_both P [] ys first second = second
each_both P (a ∷ xs) ys first second = (first.0, each_both P xs ys first.1 second)

each_other : (P Q : Ask → Type 0) (xs : List Ask) → ((a : Ask) → P a → Q a) → Each P xs → Each Q xs
each_other P Q [] may each = tt
each_other P Q (a ∷ xs) may each = (may a each.0, each_other P Q xs may each.1)

once_both : (P Q : Ask → Type 0) (xs ys : List Ask) → ((a b : Ask) → P a → Q b → a ≢ b) → Each P xs → Each Q ys → AreOnce xs → AreOnce ys →
    AreOnce (xs ++ ys)
once_both P Q [] ys apart first second once once' = once'
once_both P Q (a ∷ xs) ys apart first second once once' = (
  each_both (λ b. a ≢ b) xs ys once.0 (each_other Q (λ b. a ≢ b) ys (λ b is. apart a b first.0 is) second),
  once_both P Q xs ys apart first.1 second once.1 once',
)

each_if : (P : Ask → Type 0) (needed : Bool) (a : Ask) → (needed ≡ true → P a) → Each P (if_asked needed a)
each_if P true a may = (may refl, tt)
each_if P false a may = tt

once_if : (needed : Bool) (a : Ask) → AreOnce (if_asked needed a)
once_if true a = (tt, tt)
once_if false a = tt

what_apart : (a b : Ask) → a.what ≢ b.what → a ≢ b
what_apart a b differ same = differ (ap (λ (a : Ask). a.what) same)

place_apart : (a b : Ask) → a.place ≢ b.place → a ≢ b
place_apart a b differ same = differ (ap (λ (a : Ask). a.place) same)

module _ (parts : List Part) (in_order : (i : ℕ) (p : Part) → slice_get parts i ≡ Some p → p.place ≡ i) where
  -- it is the part at its place
  abbrev pub Stands : Part → Type 0
  Stands p = slice_get parts p.place ≡ Some p

  pub stands_at : (i : ℕ) (p : Part) → slice_get parts i ≡ Some p → Stands p
  stands_at i p at = subst (λ k. slice_get parts k ≡ Some p) (sym (in_order i p at)) at

  -- parts from a place on
  abbrev pub From : ℕ → List Part → Type 0
  From n [] = Unit {0}
  From n (p ∷ ps) = (n ≤ p.place) × Stands p × From (p.place + 1) ps

  from_at : (n : ℕ) (ps : List Part) → ((i : ℕ) (p : Part) → slice_get ps i ≡ Some p → slice_get parts (n + i) ≡ Some p) → From n ps
  from_at n [] at = tt
  from_at n (p ∷ ps) at =
      let here : slice_get parts (n + 0) ≡ Some p = at 0 p refl in
      let place : p.place ≡ n + 0 = in_order (n + 0) p here in
      let least : n ≤ p.place = omega (arith, place) in (
        least,
        stands_at (n + 0) p here,
        from_at (p.place + 1) ps (λ i q is.
            let e : n + suc i ≡ p.place + 1 + i = omega (arith, place) in
            subst (λ k. slice_get parts k ≡ Some q) e (at (suc i) q is)),
      )

  pub all_from : From 0 parts
  all_from = from_at 0 parts (λ i p at. let e : i ≡ 0 + i = omega arith in subst (λ k. slice_get parts k ≡ Some p) e at)

  -- what stands in front of another that shares with it, and passes a test, isn't the first that passes
  in_front : (test : Part → Bool) (p q : Part) → Stands p → p.place < q.place → q.holder ≡ p.holder → test p ≡ true →
      any_in_front test parts q ≡ true
  in_front test p q stands less holder passes =
      let front : nat_lt p.place q.place ≡ true = grind (arith, nat_tests, less) in
      let same : (p.holder == q.holder) ≡ true = grind (arith, nat_tests, holder) in
      any_passes_from_place (λ r. is_in_front q r && test r) parts p.place p stands (and_from _ _ (and_from _ _ front same) passes)

  not_first : (test : Part → Bool) (p q : Part) → Stands p → p.place < q.place → test p ≡ true →
      test q && not (any_in_front test parts q) ≡ true →
      p.holder ≢ q.holder
  not_first test p q stands less passes first same =
      let any : not (any_in_front test parts q) ≡ false = ap not (in_front test p q stands less (sym same) passes) in
      let e : true ≡ false = sym (and_parts (test q) _ first).1 ∙ any in let never : ⊥ = cc in never

  -- ---- what asks in a turn

  data OfTurn (p : Part) : Ask → Type 0 where
    staying : stays_based_first parts p ≡ true → OfTurn p (ask StayingBase p.holder)
    result : OfTurn p (ask ResultBase p.place)
    own : comes_in_first parts p ≡ true → OfTurn p (ask Own p.holder)

  data OfFar (p : Part) : Ask → Type 0 where
    far : stays_far_first parts p ≡ true → OfFar p (ask StayingFar p.holder)

  of_base : (moved : Bool) (p : Part) → p.is_moved ≡ moved → fetches_base parts p ≡ true →
      OfTurn p (if moved then ask ResultBase p.place else ask StayingBase p.holder)
  of_base true p is fetches = result
  of_base false p is fetches = staying (by (stays_based_first parts p) (is_result p) (comes_in_first parts p) refl
      (ap (λ b. b && p.needs.is_output) is) (ap (λ b. (b && p.needs.is_input) && not (any_in_front comes_in parts p))
      is) (and_parts p.needs.has_base _ (and_parts (loads_base parts p) _ fetches).0).1)
    where
      by : (b c d : Bool) → stays_based_first parts p ≡ b → c ≡ false → d ≡ false → b || (c || d) ≡ true → stays_based_first parts p ≡ true
      by true c d here none none' some = here
      by false true d here none none' some = absurd (let never : ⊥ = cc in never)
      by false false true here none none' some = absurd (let never : ⊥ = cc in never)
      by false false false here none none' some = absurd (let never : ⊥ = cc in never)

  of_turn : (p : Part) → Each (OfTurn p) (turn_asks parts p)
  of_turn p = each_both (OfTurn p) (if_asked (fetches_base parts p) (base_ask p)) (if_asked (comes_in_first parts p) (ask Own p.holder))
      (each_if (OfTurn p) (fetches_base parts p) (base_ask p) (λ fetches. of_base p.is_moved p refl fetches))
      (each_if (OfTurn p) (comes_in_first parts p) (ask Own p.holder) (λ first. own first))

  of_far : (p : Part) → Each (OfFar p) (far_asks parts p)
  of_far p = each_if (OfFar p) (stays_far_first parts p) (ask StayingFar p.holder) (λ first. far first)

  turn_apart : (p q : Part) (a b : Ask) → Stands p → p.place < q.place → OfTurn p a → OfTurn q b → a ≢ b
  turn_apart p q _ _ stands less (staying first) (staying first') =
      place_apart _ _ (not_first (stays_based) p q stands less (and_parts (stays_based p) _ first).0 first')
  turn_apart p q _ _ stands less (staying first) result = what_apart _ _ (λ e. let never : ⊥ = cc in never)
  turn_apart p q _ _ stands less (staying first) (own first') = what_apart _ _ (λ e. let never : ⊥ = cc in never)
  turn_apart p q _ _ stands less result (staying first') = what_apart _ _ (λ e. let never : ⊥ = cc in never)
  turn_apart p q _ _ stands less result result = place_apart _ _ (λ e. let never : ⊥ = omega (arith, less, e) in never)
  turn_apart p q _ _ stands less result (own first') = what_apart _ _ (λ e. let never : ⊥ = cc in never)
  turn_apart p q _ _ stands less (own first) (staying first') = what_apart _ _ (λ e. let never : ⊥ = cc in never)
  turn_apart p q _ _ stands less (own first) result = what_apart _ _ (λ e. let never : ⊥ = cc in never)
  turn_apart p q _ _ stands less (own first) (own first') =
      place_apart _ _ (not_first comes_in p q stands less (and_parts (comes_in p) _ first).0 first')

  far_apart : (p q : Part) (a b : Ask) → Stands p → p.place < q.place → OfFar p a → OfFar q b → a ≢ b
  far_apart p q _ _ stands less (far first) (far first') =
      place_apart _ _ (not_first stays_far p q stands less (and_parts (stays_far p) _ first).0 first')

  base_own : (moved : Bool) (p : Part) (a : Ask) → a ≡ ask Own p.holder →
      (if moved then ask ResultBase p.place else ask StayingBase p.holder) ≢ a
  base_own true p a is same = let e : ask ResultBase p.place ≡ ask Own p.holder = same ∙ is in
      what_apart _ _ (λ e. let never : ⊥ = cc in never) e
  base_own false p a is same = let e : ask StayingBase p.holder ≡ ask Own p.holder = same ∙ is in
      what_apart _ _ (λ e. let never : ⊥ = cc in never) e

  turn_once : (p : Part) → AreOnce (turn_asks parts p)
  turn_once p = once_both (λ a. a ≡ base_ask p) (λ a. a ≡ ask Own p.holder) (if_asked (fetches_base parts p) (base_ask p))
      (if_asked (comes_in_first parts p) (ask Own p.holder)) (λ a b is is' same. base_own p.is_moved p b is' (sym is ∙ same))
      (each_if (λ a. a ≡ base_ask p) (fetches_base parts p) (base_ask p) (λ _. refl))
      (each_if (λ a. a ≡ ask Own p.holder) (comes_in_first parts p) (ask Own p.holder) (λ _. refl))
      (once_if (fetches_base parts p) (base_ask p)) (once_if (comes_in_first parts p) (ask Own p.holder))

  -- ---- each asks once

  module _ (Of : Part → Ask → Type 0) (f : Part → List Ask) (each : (p : Part) → Each (Of p) (f p)) (once : (p : Part) → AreOnce (f p))
      (apart : (p q : Part) (a b : Ask) → Stands p → p.place < q.place → Of p a → Of q b → a ≢ b) where
    later : (p : Part) (a : Ask) (n : ℕ) (ps : List Part) → Stands p → p.place < n → Of p a → From n ps → Each (λ b. a ≢ b) (flat_map f ps)
    later p a n [] stands less of from = tt
    later p a n (q ∷ ps) stands less of from =
        let beyond : p.place < q.place = omega (arith, less, from.0) in
        let beyond' : p.place < q.place + 1 = omega (arith, beyond) in
        each_both (λ b. a ≢ b) (f q) (flat_map f ps) (each_other (Of q) (λ b. a ≢ b) (f q)
        (λ b of'. apart p q a b stands beyond of of') (each q))
        (later p a (q.place + 1) ps stands beyond' of from.2)

    before : (p : Part) (xs : List Ask) (ps : List Part) → Stands p → Each (Of p) xs → AreOnce xs →
        From (p.place + 1) ps → AreOnce (flat_map f ps) →
        AreOnce (xs ++ flat_map f ps)
    before p [] ps stands of once' from rest = rest
    before p (a ∷ xs) ps stands of once' from rest =
        let less : p.place < p.place + 1 = omega arith in (
          each_both (λ b. a ≢ b) xs (flat_map f ps) once'.0 (later p a (p.place + 1) ps stands less of.0 from),
          before
              p xs ps stands of.1 once'.1 from rest,
        )

    all_once : (n : ℕ) (ps : List Part) → From n ps → AreOnce (flat_map f ps)
    all_once n [] from = tt
    all_once n (p ∷ ps) from = before p (f p) ps from.1 (each p) (once p) from.2 (all_once (p.place + 1) ps from.2)

  each_of : (P : Ask → Type 0) (f : Part → List Ask) → ((p : Part) → Stands p → Each P (f p)) →
      (n : ℕ) (ps : List Part) → From n ps → Each P (flat_map f ps)
  each_of P f each n [] from = tt
  each_of P f each n (p ∷ ps) from = each_both P (f p) (flat_map f ps) (each p from.1) (each_of P f each (p.place + 1) ps from.2)

  abbrev IsNoFar : Ask → Type 0
  IsNoFar a = a.what ≢ StayingFar

  no_far : (p : Part) (a : Ask) → OfTurn p a → IsNoFar a
  no_far p _ (staying first) e = let never : ⊥ = cc in never
  no_far p _ result e = let never : ⊥ = cc in never
  no_far p _ (own first) e = let never : ⊥ = cc in never

  is_far : (p : Part) (a : Ask) → OfFar p a → a.what ≡ StayingFar
  is_far p _ (far first) = refl

  pub asks_once : AreOnce (asks_before parts)
  asks_once = once_both IsNoFar (λ a. a.what ≡ StayingFar) (flat_map (turn_asks parts) parts) (flat_map (far_asks parts) parts)
      (λ a b no is same. no (ap (λ (a : Ask). a.what) same ∙ is))
      (each_of IsNoFar (turn_asks parts) (λ p stands. each_other (OfTurn p) IsNoFar (turn_asks parts p) (no_far p)
      (of_turn p)) 0 parts all_from)
      (each_of (λ a. a.what ≡ StayingFar) (far_asks parts)
      (λ p stands. each_other (OfFar p) (λ a. a.what ≡ StayingFar) (far_asks parts p) (is_far p) (of_far p)) 0 parts all_from)
      (all_once OfTurn (turn_asks parts) of_turn turn_once turn_apart 0 parts all_from)
      (all_once OfFar (far_asks parts) of_far (λ p. once_if (stays_far_first parts p) (ask StayingFar p.holder)) far_apart 0 parts all_from)

  -- ---- each is one that asks

  abbrev pub IsAsked : Ask → Type 0
  IsAsked a = is_asked (asks_of parts) a ≡ true

  pub asks_asked : Each IsAsked (asks_before parts)
  asks_asked = each_both IsAsked (flat_map (turn_asks parts) parts) (flat_map (far_asks parts) parts)
      (each_of IsAsked (turn_asks parts) (λ p stands. each_both IsAsked (if_asked (fetches_base parts p) (base_ask p))
      (if_asked (comes_in_first parts p) (ask Own p.holder))
      (each_if IsAsked (fetches_base parts p) (base_ask p) (λ is. base_asked parts p.place p stands
      (and_parts (loads_base parts p) (holds_base p) is).1))
      (each_if IsAsked (comes_in_first parts p) (ask Own p.holder)
      (λ is. own_asked parts p.place p stands (and_parts p.is_moved p.needs.is_input (and_parts (comes_in p) _ is).0).0))) 0 parts all_from)
      (each_of IsAsked (far_asks parts) (λ p stands. each_if IsAsked (stays_far_first parts p) (ask StayingFar p.holder)
      (λ is. far_asked parts p.place p stands (and_parts (stays_far p) _ is).0)) 0 parts all_from)
