-- The first operand of those that share, and what something holds of all that asks for a register before an instruction.
use Rattle.std.proofs.Common.{◌≡◌, ℕ, zero, suc, ◌+◌, ◌<◌, ◌&&◌, ◌||◌, not, if◌then◌else◌, Bool, true, false, List, [], ◌∷◌, ◌++◌, slice_get, Some, refl, sym, ap, subst, ◌∙◌, arith}
use Rattle.std.proofs.lemmas.Bool.{and_parts, and_from}
use Rattle.std.proofs.lemmas.Bool.Decides.{nat_tests}
use Rattle.std.specs.List.{flat_map, list_any}
use Rattle.std.specs.Prelude.{nat_lt}
use Rattle.reload_moves.specs.declared.ask.Ask.{Ask}
use Rattle.reload_moves.specs.declared.ask.What.TheVariants.{Own, StayingBase, ResultBase, StayingFar}
use Rattle.reload_moves.specs.declared.part.Part.{Part}
use Rattle.reload_moves.specs.Moves.{is_in_front, any_in_front, comes_in, comes_in_first, stays_based, stays_based_first, stays_far_first, loads_base}
use Rattle.reload_moves.specs.Registers.{ask, holds_base, base_ask, is_result, stays_far}
use Rattle.law_operands_fetched.proofs.AsksBefore.{Each, if_asked, fetches_base, turn_asks, far_asks, asks_before, stands_at}

any_there : {A : Type 0} (test : A → Bool) (xs : List A) → list_any test xs ≡ true → (i : ℕ) ×
    ((x : A) × ((slice_get xs i ≡ Some x) × (test x ≡ true)))
any_there test [] any = absurd (let no : ⊥ = cc in no)
any_there test (x ∷ xs) any = by (test x) refl any (λ later. any_there test xs later)
  where
    by : (here : Bool) → test x ≡ here → here || list_any test xs ≡ true →
        (list_any test xs ≡ true → (i : ℕ) × ((y : _) × ((slice_get xs i ≡ Some y) × (test y ≡ true)))) →
        (i : ℕ) × ((y : _) × ((slice_get (x ∷ xs) i ≡ Some y) × (test y ≡ true)))
    by true is any later = (0, (x, (refl, is)))
    by false is any later = let k = later any in (suc k.0, k.1)

each_parts : (P : Ask → Type 0) (xs ys : List Ask) → Each P (xs ++ ys) → Each P xs × Each P ys
each_parts P [] ys each = (tt, each)
each_parts P (a ∷ xs) ys each = let rest = each_parts P xs ys each.1 in ((each.0, rest.0), rest.1)

each_at : (P : Ask → Type 0) (g : Part → List Ask) (ps : List Part) (i : ℕ) (p : Part) → slice_get ps i ≡ Some p →
    Each P (flat_map g ps) → Each P (g p)
each_at P g [] i p at each = absurd (let no : ⊥ = cc in no)
each_at P g (q ∷ ps) zero p at each = let same : q ≡ p = cc in subst (λ (p : Part). Each P (g p)) same
    (each_parts P (g q) (flat_map g ps) each).0
each_at P g (q ∷ ps) (suc i) p at each = each_at P g ps i p at (each_parts P (g q) (flat_map g ps) each).1

each_of : (P : Ask → Type 0) (needed : Bool) (a : Ask) → needed ≡ true → Each P (if_asked needed a) → P a
each_of P true a is each = each.0
each_of P false a is each = absurd (let no : ⊥ = cc in no)

module _ (parts : List Part) (in_order : (i : ℕ) (p : Part) → slice_get parts i ≡ Some p → p.place ≡ i) where
  -- the first that passes a test and shares with another that does
  pub record First (test : Part → Bool) (p : Part) : Type 0 where
    pub first : Part
    pub stands : slice_get parts first.place ≡ Some first
    pub shares : first.holder ≡ p.holder
    pub is_first : test first && not (any_in_front test parts first) ≡ true

  first_by : (test : Part → Bool) (n : ℕ) (p : Part) → slice_get parts p.place ≡ Some p → p.place < n → test p ≡ true → First test p
  first_by test zero p stands less passes = absurd (omega (arith, less))
  first_by test (suc n) p stands less passes = by (any_in_front test parts p) refl
      (λ q stands less passes. first_by test n q stands less passes)
    where
      by : (any : Bool) → any_in_front test parts p ≡ any →
          ((q : Part) → slice_get parts q.place ≡ Some q → q.place < n → test q ≡ true → First test q) → First test p
      by false is later = record { first = p; stands = stands; shares = refl; is_first = and_from (test p) _ passes (ap not is) }
      by true is later =
          let k = any_there (λ q. is_in_front p q && test q) parts is in
          let q = k.1.0 in
          let both = and_parts (is_in_front p q) (test q) k.1.1.1 in
          let front = and_parts (nat_lt q.place p.place) _ both.0 in
          let before : q.place < p.place = grind (arith, nat_tests, front.0) in
          let same : q.holder ≡ p.holder = grind (arith, nat_tests, front.1) in
          let within : q.place < n = omega (arith, before, less) in
          let first = later q (stands_at parts in_order k.0 q k.1.1.0) within both.1 in
          record { first = first.first; stands = first.stands; shares = first.shares ∙ same; is_first = first.is_first }

  first_of : (test : Part → Bool) (p : Part) → slice_get parts p.place ≡ Some p → test p ≡ true → First test p
  first_of test p stands passes = first_by test (p.place + 1) p stands (let less : p.place < p.place + 1 = omega arith in less) passes

  -- ---- what holds of all that asks

  module _ (P : Ask → Type 0) (all : Each P (asks_before parts)) where
    turns : Each P (flat_map (turn_asks parts) parts)
    turns = (each_parts P (flat_map (turn_asks parts) parts) (flat_map (far_asks parts) parts) all).0

    fars : Each P (flat_map (far_asks parts) parts)
    fars = (each_parts P (flat_map (turn_asks parts) parts) (flat_map (far_asks parts) parts) all).1

    in_turn : (p : Part) → slice_get parts p.place ≡ Some p → Each P (if_asked (fetches_base parts p) (base_ask p)) ×
        Each P (if_asked (comes_in_first parts p) (ask Own p.holder))
    in_turn p stands = each_parts P (if_asked (fetches_base parts p) (base_ask p)) (if_asked (comes_in_first parts p) (ask Own p.holder))
        (each_at P (turn_asks parts) parts p.place p stands turns)

    -- of the register of an input
    pub of_own : (p : Part) → slice_get parts p.place ≡ Some p → comes_in p ≡ true → P (ask Own p.holder)
    of_own p stands comes =
        let q = first_of comes_in p stands comes in
        subst (λ h. P (ask Own h)) q.shares (each_of P (comes_in_first parts q.first) (ask Own q.first.holder)
        q.is_first (in_turn q.first q.stands).1)

    loaded : (p : Part) → slice_get parts p.place ≡ Some p → p.needs.has_base ≡ true →
        stays_based_first parts p || (is_result p || comes_in_first parts p) ≡ true →
        holds_base p ≡ true → P (base_ask p)
    loaded p stands has some holds =
        each_of P (fetches_base parts p) (base_ask p) (and_from (loads_base parts p) (holds_base p)
        (and_from p.needs.has_base _ has some) holds) (in_turn p stands).0

    or_first : (a b : Bool) → a ≡ true → a || b ≡ true
    or_first a b is = ap (λ a. a || b) is

    or_second : (a b c : Bool) → b ≡ true → a || (b || c) ≡ true
    or_second true b c is = refl
    or_second false b c is = ap (λ b. b || c) is

    base_by : (moved : Bool) (p : Part) → p.is_moved ≡ moved → slice_get parts p.place ≡ Some p → holds_base p ≡ true → P (base_ask p)
    base_by true p m stands holds =
        let both = and_parts p.needs.has_base _ holds in
        let output : p.needs.is_output ≡ true = sym (ap (λ b. not b || p.needs.is_output) m) ∙ both.1 in
        loaded p stands both.0 (or_second (stays_based_first parts p) (is_result p) (comes_in_first parts p)
        (and_from p.is_moved _ m output)) holds
    base_by false p m stands holds =
        let q = first_of stays_based p stands (and_from (not p.is_moved) _ (ap not m) (and_parts p.needs.has_base _ holds).0) in
        let stays = and_parts (not q.first.is_moved) q.first.needs.has_base (and_parts (stays_based q.first) _ q.is_first).0 in
        let kept : q.first.is_moved ≡ false = not_true q.first.is_moved stays.0 in
        let here = loaded q.first q.stands stays.1 (or_first (stays_based_first parts q.first) _ q.is_first)
        (and_from q.first.needs.has_base _ stays.1 (ap (λ b. not b || q.first.needs.is_output) kept)) in
        subst (λ a. P a) (asks_alike q.first kept ∙ ap (ask StayingBase) q.shares ∙ sym (asks_alike p m)) here
      where
        not_true : (b : Bool) → not b ≡ true → b ≡ false
        not_true true is = absurd (let no : ⊥ = cc in no)
        not_true false is = refl

        asks_alike : (p : Part) → p.is_moved ≡ false → base_ask p ≡ ask StayingBase p.holder
        asks_alike p m = ap (λ b. if b then ask ResultBase p.place else ask StayingBase p.holder) m

    -- of the register of a base
    pub of_base : (p : Part) → slice_get parts p.place ≡ Some p → holds_base p ≡ true → P (base_ask p)
    of_base p stands holds = base_by p.is_moved p refl stands holds

    -- of that of a far base
    pub of_far : (p : Part) → slice_get parts p.place ≡ Some p → stays_far p ≡ true → P (ask StayingFar p.holder)
    of_far p stands stays =
        let q = first_of stays_far p stands stays in
        subst (λ h. P (ask StayingFar h)) q.shares
        (each_of P (stays_far_first parts q.first) (ask StayingFar q.first.holder) q.is_first
        (each_at P (far_asks parts) parts q.first.place q.first q.stands fars))
