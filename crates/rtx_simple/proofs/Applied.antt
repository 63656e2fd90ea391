-- What is made where a rule applies.
use Rattle.std.proofs.Common.{◌≡◌, ℕ, ℤ, Bool, true, false, List, [], ◌∷◌, Option, Some, None, length, reverse, refl, ap, sym, subst, ◌∙◌, ◌<◌, arith, if◌then◌else◌}
use Rattle.std.specs.Prelude.{slice_get, slice_set, option_map, option_and_then, unwrap_or, ◌&&◌, not}
use Rattle.std.specs.Option.{is_some}
use Rattle.rtx_tree.specs.declared.code.Code.{Code}
use Rattle.rtx_tree.specs.declared.code.Code.TheVariants as code
use Rattle.rtx_tree.specs.declared.code.Mode.{Mode}
use Rattle.rtx_tree.specs.declared.tree.Rtx.{Rtx}
use Rattle.rtx_tree.specs.Tree.{RtxHead, head_of, kids_of, tree_of, node_of, const_of, is_constant}
use Rattle.rtx_pool.specs.Trees.{with_kids_turned}
use Rattle.rtx_simple.specs.Simple.{is_zero, is_exchangeable, exchanged_by, constant_second, tested, compared_by, compared_with_zero, wrapping_sum, terms_by, added_by, added, with_added, joined_constants}
use Rattle.rtx_simple.specs.machine.Tests as tests

-- ---- a constant that goes behind

exchanges_by : (h : RtxHead) (kids : List Rtx) (x : Rtx) → is_some (exchanged_by h kids) ≡ true → tree_of h (reverse kids) ≡ unwrap_or (exchanged_by h kids) x
exchanges_by h [] x applies = cc
exchanges_by h (a ∷ []) x applies = cc
exchanges_by h (a ∷ b ∷ []) x applies = by_test (is_constant a && not (is_constant b)) applies
  where
    by_test : (t : Bool) → is_some (if t then Some (tree_of h (b ∷ a ∷ [])) else None) ≡ true → tree_of h (b ∷ a ∷ []) ≡ unwrap_or (if t then Some (tree_of h (b ∷ a ∷ [])) else None) x
    by_test true applies = refl
    by_test false applies = cc
exchanges_by h (a ∷ b ∷ c ∷ kids) x applies = cc

pub exchanges : (x : Rtx) → is_some (constant_second x) ≡ true → with_kids_turned x ≡ unwrap_or (constant_second x) x
unfolding constant_second
exchanges x applies = by_test (is_exchangeable (head_of x).code) applies
  where
    by_test : (t : Bool) → is_some (if t then exchanged_by (head_of x) (kids_of x) else None) ≡ true → with_kids_turned x ≡ unwrap_or (if t then exchanged_by (head_of x) (kids_of x) else None) x
    by_test true applies = exchanges_by (head_of x) (kids_of x) x applies
    by_test false applies = cc

two_by : (h : RtxHead) (kids : List Rtx) → is_some (exchanged_by h kids) ≡ true → length kids ≡ 2
two_by h [] applies = cc
two_by h (a ∷ []) applies = cc
two_by h (a ∷ b ∷ []) applies = refl
two_by h (a ∷ b ∷ c ∷ kids) applies = cc

pub exchanges_two : (x : Rtx) → is_some (constant_second x) ≡ true → length (kids_of x) ≡ 2
unfolding constant_second
exchanges_two x applies = by_test (is_exchangeable (head_of x).code) applies
  where
    by_test : (t : Bool) → is_some (if t then exchanged_by (head_of x) (kids_of x) else None) ≡ true → length (kids_of x) ≡ 2
    by_test true applies = two_by (head_of x) (kids_of x) applies
    by_test false applies = cc

-- ---- a comparison

compares_by : (code : Code) (mode : Mode) (kids : List Rtx) (own : Code) (c x : Rtx) → tests.compared_by code kids ≡ Some own → slice_get kids 0 ≡ Some c → node_of own mode (kids_of c) ≡ unwrap_or (compared_by code mode kids) x
compares_by code mode [] own c x applies here = cc
compares_by code mode (a ∷ []) own c x applies here = cc
compares_by code mode (a ∷ b ∷ []) own c x applies here = by_test (is_zero b) applies
  where
    by_code : (o : Option Code) → o ≡ Some own → node_of own mode (kids_of c) ≡ unwrap_or (option_map (λ own. node_of own mode (kids_of a)) o) x
    by_code None is = cc
    by_code (Some other) is = let same : c ≡ a = cc in let code : own ≡ other = cc in ap (λ k. node_of own mode (kids_of k)) same ∙ ap (λ k. node_of k mode (kids_of a)) code

    by_test : (t : Bool) → (if t then tested code (head_of a).code else None) ≡ Some own → node_of own mode (kids_of c) ≡ unwrap_or (if t then option_map (λ own. node_of own mode (kids_of a)) (tested code (head_of a).code) else None) x
    by_test true applies = by_code (tested code (head_of a).code) applies
    by_test false applies = cc
compares_by code mode (a ∷ b ∷ c ∷ kids) own d x applies here = cc

pub compares : (x c : Rtx) (own : Code) → tests.compared x ≡ Some own → slice_get (kids_of x) 0 ≡ Some c → node_of own (head_of x).mode (kids_of c) ≡ unwrap_or (compared_with_zero x) x
unfolding compared_with_zero
compares x c own applies here = compares_by (head_of x).code (head_of x).mode (kids_of x) own c x applies here

-- ---- constants that are joined

-- a sum's kids, with another constant second
added_kids : (c : Code) (kids : List Rtx) (p : Rtx × ℤ) (z : Rtx) → option_and_then added_by (terms_by c kids) ≡ Some p → slice_set kids 1 z ≡ p.0 ∷ z ∷ []
added_kids code.Plus [] p z is = cc
added_kids code.Plus (a ∷ []) p z is = cc
added_kids code.Plus (a ∷ b ∷ []) p z is = by_test (is_constant b) is
  where
    by_test : (t : Bool) → (if t then Some (a, (head_of b).number) else None) ≡ Some p → a ∷ z ∷ [] ≡ p.0 ∷ z ∷ []
    by_test true same = let pair : ◌≡◌ {A = Rtx × ℤ} (a, (head_of b).number) p = cc in ap (λ (q : Rtx × ℤ). q.0 ∷ z ∷ []) pair
    by_test false same = cc
added_kids code.Plus (a ∷ b ∷ c ∷ kids) p z is = cc
added_kids _ kids p z is = cc

joins_by : (c : Code) (mode : Mode) (kids new : List Rtx) (inner : Rtx) (s : ℤ) → tests.joined_by c kids ≡ Some s → slice_get kids 0 ≡ Some inner → new ≡ slice_set (kids_of inner) 1 (const_of s) →
    option_and_then (λ (outer : Rtx × ℤ). option_map (with_added mode outer.1) (added outer.0)) (option_and_then added_by (terms_by c kids)) ≡ Some (node_of code.Plus mode new)
joins_by code.Plus mode [] new inner s is here same = cc
joins_by code.Plus mode (a ∷ []) new inner s is here same = cc
joins_by code.Plus mode (a ∷ b ∷ []) new inner s is here same = by_test (is_constant b) is
  where
    first : inner ≡ a
    first = cc

    by_inner : (o : Option (Rtx × ℤ)) → o ≡ added a → tests.sum_of (option_map (λ (terms : Rtx × ℤ). terms.1) o) (Some (head_of b).number) ≡ Some s → option_map (with_added mode (head_of b).number) o ≡ Some (node_of code.Plus mode new)
    by_inner None found sum = cc
    by_inner (Some p) found sum =
        let number : s ≡ wrapping_sum p.1 (head_of b).number = cc in
        let kids = same ∙ (ap (λ k. slice_set (kids_of k) 1 (const_of s)) first ∙ (added_kids (head_of a).code (kids_of a) p (const_of s) (sym found) ∙ ap (λ k. p.0 ∷ const_of k ∷ []) number)) in
        ap (λ k. Some (node_of code.Plus mode k)) (sym kids)

    no_second : (o : Option ℤ) → tests.sum_of o None ≡ Some s → None ≡ Some (node_of code.Plus mode new)
    no_second None sum = cc
    no_second (Some n) sum = cc

    by_test : (t : Bool) → tests.sum_of (tests.constant_added a) (if t then Some (head_of b).number else None) ≡ Some s →
        option_and_then (λ (outer : Rtx × ℤ). option_map (with_added mode outer.1) (added outer.0)) (if t then Some (a, (head_of b).number) else None) ≡ Some (node_of code.Plus mode new)
    by_test true sum = by_inner (added a) refl sum
    by_test false sum = no_second (tests.constant_added a) sum
joins_by code.Plus mode (a ∷ b ∷ c ∷ kids) new inner s is here same = cc
joins_by _ mode kids new inner s is here same = cc

pub joins : (x inner : Rtx) (new : List Rtx) (s : ℤ) → tests.joined x ≡ Some s → slice_get (kids_of x) 0 ≡ Some inner → new ≡ slice_set (kids_of inner) 1 (const_of s) → joined_constants x ≡ Some (node_of code.Plus (head_of x).mode new)
unfolding joined_constants
joins x inner new s is here same = joins_by (head_of x).code (head_of x).mode (kids_of x) new inner s is here same

-- and where there is no such constant, nothing is
joins_not_by : (c : Code) (mode : Mode) (kids : List Rtx) → tests.joined_by c kids ≡ None → option_and_then (λ (outer : Rtx × ℤ). option_map (with_added mode outer.1) (added outer.0)) (option_and_then added_by (terms_by c kids)) ≡ None
joins_not_by code.Plus mode [] is = refl
joins_not_by code.Plus mode (a ∷ []) is = refl
joins_not_by code.Plus mode (a ∷ b ∷ []) is = by_test (is_constant b) is
  where
    by_inner : (o : Option (Rtx × ℤ)) → tests.sum_of (option_map (λ (terms : Rtx × ℤ). terms.1) o) (Some (head_of b).number) ≡ None → option_map (with_added mode (head_of b).number) o ≡ None
    by_inner None sum = refl
    by_inner (Some p) sum = cc

    by_test : (t : Bool) → tests.sum_of (tests.constant_added a) (if t then Some (head_of b).number else None) ≡ None → option_and_then (λ (outer : Rtx × ℤ). option_map (with_added mode outer.1) (added outer.0)) (if t then Some (a, (head_of b).number) else None) ≡ None
    by_test true sum = by_inner (added a) sum
    by_test false sum = refl
joins_not_by code.Plus mode (a ∷ b ∷ c ∷ kids) is = refl
joins_not_by _ mode kids is = refl

pub joins_not : (x : Rtx) → tests.joined x ≡ None → joined_constants x ≡ None
unfolding joined_constants
joins_not x is = joins_not_by (head_of x).code (head_of x).mode (kids_of x) is

-- ---- the kids that there are

joined_long_by : (c : Code) (kids : List Rtx) (s : ℤ) → tests.joined_by c kids ≡ Some s → 0 < length kids
joined_long_by code.Plus [] s is = cc
joined_long_by code.Plus (a ∷ kids) s is = omega arith
joined_long_by _ kids s is = cc

pub joined_long : (x : Rtx) (s : ℤ) → tests.joined x ≡ Some s → 0 < length (kids_of x)
joined_long x s is = joined_long_by (head_of x).code (kids_of x) s is

added_long : (c : Code) (kids : List Rtx) (p : Rtx × ℤ) → option_and_then added_by (terms_by c kids) ≡ Some p → 1 < length kids
added_long code.Plus [] p is = cc
added_long code.Plus (a ∷ []) p is = cc
added_long code.Plus (a ∷ b ∷ kids) p is = omega arith
added_long _ kids p is = cc

inner_long_by : (c : Code) (kids : List Rtx) (inner : Rtx) (s : ℤ) → tests.joined_by c kids ≡ Some s → slice_get kids 0 ≡ Some inner → 1 < length (kids_of inner)
inner_long_by code.Plus [] inner s is here = cc
inner_long_by code.Plus (a ∷ []) inner s is here = cc
inner_long_by code.Plus (a ∷ b ∷ []) inner s is here = by_inner (added a) refl is
  where
    first : a ≡ inner
    first = cc

    none : (o : Option ℤ) → tests.sum_of None o ≡ Some s → ⊥
    none None sum = cc
    none (Some n) sum = cc

    by_inner : (o : Option (Rtx × ℤ)) → added a ≡ o → tests.sum_of (option_map (λ (terms : Rtx × ℤ). terms.1) o) (tests.constant_of b) ≡ Some s → 1 < length (kids_of inner)
    by_inner None found sum = absurd (none (tests.constant_of b) sum)
    by_inner (Some p) found sum = subst (λ y. 1 < length (kids_of y)) first (added_long (head_of a).code (kids_of a) p found)
inner_long_by code.Plus (a ∷ b ∷ c ∷ kids) inner s is here = cc
inner_long_by _ kids inner s is here = cc

pub inner_long : (x inner : Rtx) (s : ℤ) → tests.joined x ≡ Some s → slice_get (kids_of x) 0 ≡ Some inner → 1 < length (kids_of inner)
inner_long x inner s is here = inner_long_by (head_of x).code (kids_of x) inner s is here
