-- The smallest of some reasons: of two things and of what is made of both, and of several.
use Rattle.std.proofs.Common.{◌≡◌, ◌≤◌, ◌⊎◌, Bool, true, false, List, [], ◌∷◌, Result, Ok, Err, refl, sym, ap, subst, inl, inr, ⊎_elim, arith, nat_le, if◌then◌else◌}
use Rattle.std.specs.Prelude.{Contains}
use Rattle.std.proofs.lemmas.Bool.{leb-true, leb-false}
use Rattle.std.proofs.lemmas.List.Elements.{Contains-push, Contains-push_cases, Contains-append_left, Contains-append_right, Contains-append_cases}
use Rattle.md_pattern.specs.declared.reason.Reason.{Reason}
use Rattle.md_pattern.specs.Reason.{number_of, smaller, both, judged_map, judged_with, IsSmallest}

-- the reason that something gives
abbrev pub Of : {A : Type 0} → Result A Reason → Reason → Type 0
Of {A} a r = ◌≡◌ {A = Result A Reason} a (Err r)

abbrev pub Or : (Reason → Type 0) → (Reason → Type 0) → Reason → Type 0
Or P Q r = P r ⊎ Q r

no_reason : {A : Type 0} (x : A) (r : Reason) → ◌≡◌ {A = Result A Reason} (Ok x) (Err r) → ⊥
no_reason x r e = cc

one_reason : {A : Type 0} (r s : Reason) → ◌≡◌ {A = Result A Reason} (Err r) (Err s) → number_of r ≡ number_of s
one_reason r s e = ap number_of cc

pub alone : {A : Type 0} (a : Result A Reason) → IsSmallest (Of a) a
alone (Ok x) = λ r e. no_reason x r e
alone {A} (Err r) = (refl, λ s e. let same : number_of r ≡ number_of s = one_reason {A = A} r s e in omega (arith, same))

-- other words for the same reasons
pub change : {A : Type 0} (P Q : Reason → Type 0) (a : Result A Reason) → ((r : Reason) → P r → Q r) → ((r : Reason) → Q r → P r) → IsSmallest P a → IsSmallest Q a
change P Q (Ok x) to from none = λ r q. none r (from r q)
change P Q (Err r) to from least = (to r least.0, λ s q. least.1 s (from s q))

pub made : {A B : Type 0} (P : Reason → Type 0) (f : A → B) (a : Result A Reason) → IsSmallest P a → IsSmallest P (judged_map f a)
made P f (Ok x) none = none
made P f (Err r) least = least

module _ (P Q : Reason → Type 0) (r s : Reason) (p : P r) (q : Q s) (least_p : (t : Reason) → P t → number_of r ≤ number_of t) (least_q : (t : Reason) → Q t → number_of s ≤ number_of t) where
  by_test : (b : Bool) → nat_le (number_of r) (number_of s) ≡ b → Or P Q (if b then r else s) × ((t : Reason) → Or P Q t → number_of (if b then r else s) ≤ number_of t)
  by_test true e =
      (inl p, λ t has. ⊎_elim (λ (x : P t). least_p t x) (λ (x : Q t). let more = least_q t x in let less = leb-true (number_of r) (number_of s) e in omega (arith, less, more)) has)
  by_test false e =
      (inr q, λ t has. ⊎_elim (λ (x : P t). let more = least_p t x in let less = leb-false (number_of r) (number_of s) e in omega (arith, less, more)) (λ (x : Q t). least_q t x) has)

  pub of_two : Or P Q (smaller r s) × ((t : Reason) → Or P Q t → number_of (smaller r s) ≤ number_of t)
  of_two = by_test (nat_le (number_of r) (number_of s)) refl

pub pair : {A B : Type 0} (P Q : Reason → Type 0) (a : Result A Reason) (b : Result B Reason) → IsSmallest P a → IsSmallest Q b → IsSmallest (Or P Q) (both a b)
pair P Q (Ok x) (Ok y) none nothing = λ r has. ⊎_elim (none r) (nothing r) has
pair P Q (Ok x) (Err s) none least = (inr least.0, λ t has. ⊎_elim (λ (p : P t). absurd (none t p)) (least.1 t) has)
pair P Q (Err r) (Ok y) least none = (inl least.0, λ t has. ⊎_elim (least.1 t) (λ (q : Q t). absurd (none t q)) has)
pair P Q (Err r) (Err s) one other = of_two P Q r s one.0 other.0 one.1 other.1

pub with : {A B C : Type 0} (P Q : Reason → Type 0) (f : A → B → C) (a : Result A Reason) (b : Result B Reason) → IsSmallest P a → IsSmallest Q b → IsSmallest (Or P Q) (judged_with f a b)
with P Q f a b one other = made (Or P Q) (λ x. f x.0 x.1) (both a b) (pair P Q a b one other)

-- ---- some things

-- one of these has the reason
abbrev pub Among : {X : Type 0} → (X → Reason → Type 0) → List X → Reason → Type 0
Among {X} Q xs r = (x : X) × Contains xs x × Q x r

pub none_in : {X : Type 0} (x : X) → Contains [] x → ⊥
none_in x has = omega arith

module _ {X : Type 0} (Q : X → Reason → Type 0) (x : X) (xs : List X) where
  stands : (r : Reason) → Or (Q x) (Among Q xs) r → Among Q (x ∷ xs) r
  stands r (inl has) = (x, Contains-append_left (x ∷ []) xs x (Contains-push [] x), has)
  stands r (inr has) = (has.0, Contains-append_right (x ∷ []) xs has.0 has.1, has.2)

  which : (r : Reason) → Among Q (x ∷ xs) r → Or (Q x) (Among Q xs) r
  which r has = by_place (Contains-append_cases (x ∷ []) xs has.0 has.1)
    where
      by_place : Contains (x ∷ []) has.0 ⊎ Contains xs has.0 → Or (Q x) (Among Q xs) r
      by_place (inr later) = inr (has.0, later, has.2)
      by_place (inl first) = by_only (Contains-push_cases [] x has.0 first)
        where
          by_only : Contains [] has.0 ⊎ (x ≡ has.0) → Or (Q x) (Among Q xs) r
          by_only (inl here) = absurd (none_in has.0 here)
          by_only (inr same) = inl (subst (λ (y : X). Q y r) (sym same) has.2)

  -- one thing more, and what is made of it and the others
  pub one_more : {A B C : Type 0} (f : A → B → C) (a : Result A Reason) (b : Result B Reason) → IsSmallest (Q x) a → IsSmallest (Among Q xs) b → IsSmallest (Among Q (x ∷ xs)) (judged_with f a b)
  one_more f a b one others = change (Or (Q x) (Among Q xs)) (Among Q (x ∷ xs)) (judged_with f a b) stands which (with (Q x) (Among Q xs) f a b one others)
