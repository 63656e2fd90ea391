-- Registers of what asks are among t3 to t6, and different for what is different.
use Rattle.std.proofs.Common.{◌≡◌, ℕ, zero, suc, ◌+◌, ◌<◌, ◌≤◌, ◌==◌, ◌&&◌, ◌||◌, Bool, true, false, List, [], ◌∷◌, ◌++◌, length, slice_get, Option, Some, None, cond, refl, sym, ap, subst, ◌∙◌, arith}
use Rattle.std.specs.Prelude.{if◌then◌else◌}
use Rattle.std.proofs.lemmas.List.Folds.{list_any-append}
use Rattle.std.specs.List.{list_any, position_from}
use Rattle.std.specs.Option.{unwrap_or}
use Rattle.std.proofs.lemmas.Bool.{eqb-true, eq-eqb}
use Rattle.reload_moves.specs.declared.ask.What.{What}
use Rattle.reload_moves.specs.declared.ask.What.TheVariants.{Own, StayingBase, ResultBase, StayingFar, ResultFar}
use Rattle.reload_moves.specs.declared.ask.Ask.{Ask}
use Rattle.reload_moves.specs.declared.part.Part.{Part}
use Rattle.reload_moves.specs.Registers.{ask, rank, same_ask, is_asked, with_ask, with_ask_if, holds_base, base_ask, stays_far, ends_far, with_turn, with_turns, with_end, with_ends, asks_of, register_for}
use Rattle.reload_moves.proofs.Bounds.{position_within}

pub both : (a b : Bool) → (a && b) ≡ true → (a ≡ true) × (b ≡ true)
both true b e = (refl, e)
both false b e = absurd (let never : ⊥ = cc in never)

-- ---- asks that are the same

same_rank : (a b : What) → (rank a == rank b) ≡ true → a ≡ b
same_rank Own Own e = refl
same_rank StayingBase StayingBase e = refl
same_rank ResultBase ResultBase e = refl
same_rank StayingFar StayingFar e = refl
same_rank ResultFar ResultFar e = refl
same_rank Own StayingBase e = absurd (let never : ⊥ = cc in never)
same_rank Own ResultBase e = absurd (let never : ⊥ = cc in never)
same_rank Own StayingFar e = absurd (let never : ⊥ = cc in never)
same_rank Own ResultFar e = absurd (let never : ⊥ = cc in never)
same_rank StayingBase Own e = absurd (let never : ⊥ = cc in never)
same_rank StayingBase ResultBase e = absurd (let never : ⊥ = cc in never)
same_rank StayingBase StayingFar e = absurd (let never : ⊥ = cc in never)
same_rank StayingBase ResultFar e = absurd (let never : ⊥ = cc in never)
same_rank ResultBase Own e = absurd (let never : ⊥ = cc in never)
same_rank ResultBase StayingBase e = absurd (let never : ⊥ = cc in never)
same_rank ResultBase StayingFar e = absurd (let never : ⊥ = cc in never)
same_rank ResultBase ResultFar e = absurd (let never : ⊥ = cc in never)
same_rank StayingFar Own e = absurd (let never : ⊥ = cc in never)
same_rank StayingFar StayingBase e = absurd (let never : ⊥ = cc in never)
same_rank StayingFar ResultBase e = absurd (let never : ⊥ = cc in never)
same_rank StayingFar ResultFar e = absurd (let never : ⊥ = cc in never)
same_rank ResultFar Own e = absurd (let never : ⊥ = cc in never)
same_rank ResultFar StayingBase e = absurd (let never : ⊥ = cc in never)
same_rank ResultFar ResultBase e = absurd (let never : ⊥ = cc in never)
same_rank ResultFar StayingFar e = absurd (let never : ⊥ = cc in never)

same_ask_is : (a b : Ask) → same_ask a b ≡ true → a ≡ b
same_ask_is a b e =
    let tests = both (rank a.what == rank b.what) (a.place == b.place) e in
    ap (λ (w : What). let c : Ask = record { what = w; place = a.place } in c) (same_rank a.what b.what tests.0) ∙
    ap (λ (n : ℕ). let c : Ask = record { what = b.what; place = n } in c) (eqb-true a.place b.place tests.1)

-- ---- where they stand

stands : {X : Type 0} (test : X → Bool) (xs : List X) (i : ℕ) → list_any test xs ≡ true → (k : ℕ) × (position_from test i xs ≡ Some k)
stands test [] i any = absurd (let never : ⊥ = cc in never)
stands test (x ∷ xs) i any = split (test x) any (λ later. stands test xs (i + 1) later)
  where
    split : (b : Bool) → (b || list_any test xs) ≡ true → (list_any test xs ≡ true → (k : ℕ) × (position_from test (i + 1) xs ≡ Some k)) →
        (k : ℕ) × (cond b (Some i) (position_from test (i + 1) xs) ≡ Some k)
    split true e rest = (i, refl)
    split false e rest = rest e

at_least : {X : Type 0} (test : X → Bool) (xs : List X) (i k : ℕ) → position_from test i xs ≡ Some k → i ≤ k
at_least test [] i k e = absurd (let never : ⊥ = cc in never)
at_least test (x ∷ xs) i k e = split (test x) e (λ later. at_least test xs (i + 1) k later)
  where
    split : (b : Bool) → cond b (Some i) (position_from test (i + 1) xs) ≡ Some k → (position_from test (i + 1) xs ≡ Some k → i + 1 ≤ k) → i ≤ k
    split true found rest = let same : i ≡ k = cc in omega (arith, same)
    split false later rest = omega (arith, rest later)

-- what two tests find at one place passes both
passes_both : {X : Type 0} (t u : X → Bool) (xs : List X) (i k : ℕ) → position_from t i xs ≡ Some k → position_from u i xs ≡ Some k → (x : X) × (t x ≡ true) × (u x ≡ true)
passes_both t u [] i k e f = absurd (let never : ⊥ = cc in never)
passes_both t u (x ∷ xs) i k e f = split (t x) (u x) refl refl e f (λ g h. passes_both t u xs (i + 1) k g h)
  where
    split : (a b : Bool) → t x ≡ a → u x ≡ b → cond a (Some i) (position_from t (i + 1) xs) ≡ Some k → cond b (Some i) (position_from u (i + 1) xs) ≡ Some k →
        (position_from t (i + 1) xs ≡ Some k → position_from u (i + 1) xs ≡ Some k → (y : _) × (t y ≡ true) × (u y ≡ true)) →
        (y : _) × (t y ≡ true) × (u y ≡ true)
    split true true p q e f rest = (x, p, q)
    split true false p q e f rest = let same : i ≡ k = cc in absurd (omega (arith, same, at_least u xs (i + 1) k f))
    split false true p q e f rest = let same : i ≡ k = cc in absurd (omega (arith, same, at_least t xs (i + 1) k e))
    split false false p q e f rest = rest e f

-- ---- registers

register_at : (asks : List Ask) (a : Ask) (k : ℕ) → position_from (same_ask a) 0 asks ≡ Some k → register_for asks a ≡ 28 + k
register_at asks a k e = ap (λ (o : Option ℕ). 28 + unwrap_or o 4) e

pub at_most : (asks : List Ask) (a : Ask) → length asks ≤ 4 → is_asked asks a ≡ true → register_for asks a ≤ 31
at_most asks a few asked =
    let found = stands (same_ask a) asks 0 asked in
    omega (arith, few, register_at asks a found.0 found.1, position_within (same_ask a) asks 0 found.0 found.1)

pub at_first : (asks : List Ask) (a : Ask) → 28 ≤ register_for asks a
at_first asks a = omega arith

pub are_apart : (asks : List Ask) (a b : Ask) → is_asked asks a ≡ true → is_asked asks b ≡ true → register_for asks a ≡ register_for asks b → a ≡ b
are_apart asks a b asked_a asked_b same =
    let at_a = stands (same_ask a) asks 0 asked_a in
    let at_b = stands (same_ask b) asks 0 asked_b in
    let places : at_b.0 ≡ at_a.0 = omega (arith, same, register_at asks a at_a.0 at_a.1, register_at asks b at_b.0 at_b.1) in
    let one = passes_both (same_ask a) (same_ask b) asks 0 at_a.0 at_a.1 (at_b.1 ∙ ap (λ (n : ℕ). Some n) places) in
    same_ask_is a one.0 one.1 ∙ sym (same_ask_is b one.0 one.2)

-- ---- what needs a register asks for it

same_itself : (a : Ask) → same_ask a a ≡ true
same_itself a = ap (λ (t : Bool). t && (a.place == a.place)) (eq-eqb (rank a.what) (rank a.what) refl) ∙ eq-eqb a.place a.place refl

asked_in_both : (asks : List Ask) (a b : Ask) → is_asked asks a ≡ true → is_asked (asks ++ b ∷ []) a ≡ true
asked_in_both asks a b asked = list_any-append (same_ask a) asks (b ∷ []) ∙ ap (λ (t : Bool). t || list_any (same_ask a) (b ∷ [])) asked

or_true : (t : Bool) → (t || true) ≡ true
or_true true = refl
or_true false = refl

asked_last : (asks : List Ask) (a : Ask) → is_asked (asks ++ a ∷ []) a ≡ true
asked_last asks a =
    list_any-append (same_ask a) asks (a ∷ []) ∙ (ap (λ (t : Bool). is_asked asks a || (t || false)) (same_itself a) ∙ or_true (is_asked asks a))

-- what asks goes on asking
stays_asked : (asks : List Ask) (a b : Ask) → is_asked asks a ≡ true → is_asked (with_ask asks b) a ≡ true
stays_asked asks a b asked = split (is_asked asks b)
  where
    split : (t : Bool) → is_asked (if t then asks else asks ++ b ∷ []) a ≡ true
    split true = asked
    split false = asked_in_both asks a b asked

stays_if : (needed : Bool) (asks : List Ask) (a b : Ask) → is_asked asks a ≡ true → is_asked (with_ask_if needed asks b) a ≡ true
stays_if true asks a b asked = stays_asked asks a b asked
stays_if false asks a b asked = asked

now_asked : (asks : List Ask) (a : Ask) → is_asked (with_ask asks a) a ≡ true
now_asked asks a = split (is_asked asks a) refl
  where
    split : (t : Bool) → is_asked asks a ≡ t → is_asked (if t then asks else asks ++ a ∷ []) a ≡ true
    split true e = e
    split false e = asked_last asks a

now_if : (needed : Bool) (asks : List Ask) (a : Ask) → needed ≡ true → is_asked (with_ask_if needed asks a) a ≡ true
now_if true asks a e = now_asked asks a
now_if false asks a e = absurd (let never : ⊥ = cc in never)

-- the steps of an operand's turn
abbrev with_own : List Ask → Part → List Ask
with_own asks p = with_ask_if p.is_moved asks (ask Own p.holder)

abbrev with_base : List Ask → Part → List Ask
with_base asks p = with_ask_if (holds_base p) (with_own asks p) (base_ask p)

stays_in_turn : (asks : List Ask) (p : Part) (a : Ask) → is_asked asks a ≡ true → is_asked (with_turn asks p) a ≡ true
stays_in_turn asks p a asked =
    stays_if (stays_far p) (with_base asks p) a (ask StayingFar p.holder)
    (stays_if (holds_base p) (with_own asks p) a (base_ask p) (stays_if p.is_moved asks a (ask Own p.holder) asked))

stays_in_turns : (ps : List Part) (asks : List Ask) (a : Ask) → is_asked asks a ≡ true → is_asked (with_turns asks ps) a ≡ true
stays_in_turns [] asks a asked = asked
stays_in_turns (p ∷ ps) asks a asked = stays_in_turns ps (with_turn asks p) a (stays_in_turn asks p a asked)

stays_in_ends : (ps : List Part) (asks : List Ask) (a : Ask) → is_asked asks a ≡ true → is_asked (with_ends asks ps) a ≡ true
stays_in_ends [] asks a asked = asked
stays_in_ends (p ∷ ps) asks a asked = stays_in_ends ps (with_end asks p) a (stays_if (ends_far p) asks a (ask ResultFar p.place) asked)

-- what asks in the turn of an operand asks at the end of all turns
in_turns : (a : Ask) (p : Part) → ((asks : List Ask) → is_asked (with_turn asks p) a ≡ true) →
    (ps : List Part) (i : ℕ) (asks : List Ask) → slice_get ps i ≡ Some p → is_asked (with_turns asks ps) a ≡ true
in_turns a p turn [] i asks at = absurd (let never : ⊥ = cc in never)
in_turns a p turn (q ∷ ps) zero asks at =
    let same : q ≡ p = cc in
    stays_in_turns ps (with_turn asks q) a (subst (λ (r : Part). is_asked (with_turn asks r) a ≡ true) (sym same) (turn asks))
in_turns a p turn (q ∷ ps) (suc i) asks at = in_turns a p turn ps i (with_turn asks q) at

asked_of : (parts : List Part) (i : ℕ) (p : Part) (a : Ask) → slice_get parts i ≡ Some p → ((asks : List Ask) → is_asked (with_turn asks p) a ≡ true) →
    is_asked (asks_of parts) a ≡ true
asked_of parts i p a at turn = stays_in_ends parts (with_turns [] parts) a (in_turns a p turn parts i [] at)

-- what is moved asks for its own register
pub own_asked : (parts : List Part) (i : ℕ) (p : Part) → slice_get parts i ≡ Some p → p.is_moved ≡ true → is_asked (asks_of parts) (ask Own p.holder) ≡ true
own_asked parts i p at moved = asked_of parts i p (ask Own p.holder) at (λ asks.
    stays_if (stays_far p) (with_base asks p) (ask Own p.holder) (ask StayingFar p.holder)
    (stays_if (holds_base p) (with_own asks p) (ask Own p.holder) (base_ask p) (now_if p.is_moved asks (ask Own p.holder) moved)))

-- a base of what stays, and of a result
pub base_asked : (parts : List Part) (i : ℕ) (p : Part) → slice_get parts i ≡ Some p → holds_base p ≡ true → is_asked (asks_of parts) (base_ask p) ≡ true
base_asked parts i p at holds = asked_of parts i p (base_ask p) at (λ asks.
    stays_if (stays_far p) (with_base asks p) (base_ask p) (ask StayingFar p.holder) (now_if (holds_base p) (with_own asks p) (base_ask p) holds))

-- a far base of what stays
pub far_asked : (parts : List Part) (i : ℕ) (p : Part) → slice_get parts i ≡ Some p → stays_far p ≡ true → is_asked (asks_of parts) (ask StayingFar p.holder) ≡ true
far_asked parts i p at far = asked_of parts i p (ask StayingFar p.holder) at (λ asks. now_if (stays_far p) (with_base asks p) (ask StayingFar p.holder) far)

in_ends : (p : Part) → ends_far p ≡ true → (ps : List Part) (i : ℕ) (asks : List Ask) → slice_get ps i ≡ Some p → is_asked (with_ends asks ps) (ask ResultFar p.place) ≡ true
in_ends p far [] i asks at = absurd (let never : ⊥ = cc in never)
in_ends p far (q ∷ ps) zero asks at =
    let same : q ≡ p = cc in
    stays_in_ends ps (with_end asks q) (ask ResultFar p.place)
    (subst (λ (r : Part). is_asked (with_end asks r) (ask ResultFar p.place) ≡ true) (sym same) (now_if (ends_far p) asks (ask ResultFar p.place) far))
in_ends p far (q ∷ ps) (suc i) asks at = in_ends p far ps i (with_end asks q) at

-- a far base of a result
pub end_far_asked : (parts : List Part) (i : ℕ) (p : Part) → slice_get parts i ≡ Some p → ends_far p ≡ true → is_asked (asks_of parts) (ask ResultFar p.place) ≡ true
end_far_asked parts i p at far = in_ends p far parts i (with_turns [] parts) at
