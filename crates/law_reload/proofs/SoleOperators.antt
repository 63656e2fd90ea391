-- Where a pattern gives no operand twice, the number of an operator is none of another operand.
use Rattle.std.proofs.Common.{◌≡◌, ◌⊎◌, inl, inr, ℕ, ◌==◌, ◌&&◌, ◌||◌, not, cond, Bool, true, false, List, [], ◌∷◌, ◌++◌, map, Option, Some, None, refl, sym, ap, subst, ◌∙◌}
use Rattle.std.proofs.lemmas.Bool.{false≢true, and_parts, and_from, or_cases, or_left, or_right, eqb-true, eq-eqb}
use Rattle.std.proofs.lemmas.Bool.Decides.{Decides-int_eq}
use Rattle.std.specs.Int.{cast_unsigned, w64}
use Rattle.std.specs.List.{AllByRecursion, find, flat_map, list_all}
use Rattle.std.specs.Ordering.{int_eq}
use Rattle.std.specs.Prelude.{ℤ, pos}
use Rattle.rtx_tree.specs.Tree.{head_of, kids_of}
use Rattle.rtx_tree.specs.declared.code.Code.{Code}
use Rattle.rtx_tree.specs.declared.code.Code.TheVariants as code
use Rattle.rtx_tree.specs.declared.tree.Rtx.{Rtx}
use Rattle.rtx_tree.specs.declared.tree.Rtx.TheFolds.{fold_out-Rtx}
use Rattle.rtl_func.proofs.AllPass.{all_pass, pass_out}
use Rattle.md_match.specs.declared.role.Role.{Role}
use Rattle.md_match.specs.declared.role.Role.TheVariants as role
use Rattle.md_match.specs.Pattern.{role_of, placeholders, placeholders_as, gives, gives_number}
use Rattle.md_match.proofs.Placeholders.{placeholders_out}
use Rattle.md_forms.specs.Checks.{has, are_distinct}
use Rattle.md_forms.specs.Names.{operand_here, operands_step, operands_in}
use Rattle.law_reload_moves.specs.reload_operands.Operands.{is_operator_code}
use Rattle.law_reload_moves.proofs.InputPlaces.{is_operator_as, no_operator_of}
use Rattle.law_reload_moves.proofs.law_operands_fetched.SmallTrees.{tree_induction}

-- ---- lists

none_of : (a b : Bool) → a || b ≡ false → (a ≡ false) × (b ≡ false)
none_of true b is = absurd (false≢true (sym is))
none_of false b is = (refl, is)

is_none : (b : Bool) → not b ≡ true → b ≡ false
is_none true is = absurd (false≢true is)
is_none false is = refl

has_both : (a b : List ℕ) (n : ℕ) → has (a ++ b) n ≡ has a n || has b n
has_both [] b n = refl
has_both (m ∷ a) b n = by (m == n) (has_both a b n)
  where
    by : (t : Bool) → has (a ++ b) n ≡ has a n || has b n →
        t || has (a ++ b) n ≡ (t || has a n) || has b n
    by true rest = refl
    by false rest = rest

record AreApart (a b : List ℕ) : Type 0 where
  first : are_distinct a ≡ true
  second : are_distinct b ≡ true
  apart : (n : ℕ) → has a n ≡ true → has b n ≡ false

split : (a b : List ℕ) → are_distinct (a ++ b) ≡ true → AreApart a b
split [] b is = record { first = refl; second = is; apart = λ n here. absurd (false≢true here) }
split (m ∷ a) b is =
    let parts = and_parts (not (has (a ++ b) m)) (are_distinct (a ++ b)) is in
    let rest = split a b parts.1 in
    let none = none_of (has a m) (has b m) (sym (has_both a b m) ∙ is_none (has (a ++ b) m) parts.0)
    in record {
      first = and_from (not (has a m)) _ (ap not none.0) rest.first;
      second = rest.second;
      apart = λ n here. elim (or_cases (m == n) (has a n) here) [
        | inl same ↦ subst (λ n. has b n ≡ false) (eqb-true m n same) none.1
        | inr more ↦ rest.apart n more
      ];
    }

pub first_distinct : (a b : List ℕ) → are_distinct (a ++ b) ≡ true → are_distinct a ≡ true
first_distinct a b is = (split a b is).first

find_head : (test : Rtx → Bool) (y : Rtx) (xs : List Rtx) (form : Rtx) →
    find test (y ∷ xs) ≡ Some form →
    ((test y ≡ true) × (y ≡ form)) ⊎ ((test y ≡ false) × (find test xs ≡ Some form))
find_head test y xs form at = by (test y) refl at
  where
    by : (b : Bool) → test y ≡ b → cond b (Some y) (find test xs) ≡ Some form →
        ((test y ≡ true) × (y ≡ form)) ⊎ ((test y ≡ false) × (find test xs ≡ Some form))
    by true is at = inl (is, let same : y ≡ form = cc in same)
    by false is at = inr (is, at)

find_both : (test : Rtx → Bool) (a b : List Rtx) (form : Rtx) → find test (a ++ b) ≡ Some form →
    (find test a ≡ Some form) ⊎ (find test b ≡ Some form)
find_both test [] b form at = inr at
find_both test (x ∷ a) b form at = by (test x) at (λ at. find_both test a b form at)
  where
    by : (t : Bool) → cond t (Some x) (find test (a ++ b)) ≡ Some form →
        (find test (a ++ b) ≡ Some form → (find test a ≡ Some form) ⊎ (find test b ≡ Some form)) →
        (cond t (Some x) (find test a) ≡ Some form) ⊎ (find test b ≡ Some form)
    by true at rest = inl at
    by false at rest = rest at

-- ---- the numbers of a tree

flat_each : (xs : List Rtx) → flat_map (λ ns. ns) (map operands_in xs) ≡ flat_map operands_in xs
flat_each [] = refl
flat_each (x ∷ xs) = ap (λ rest. operands_in x ++ rest) (flat_each xs)

abbrev own : Rtx → List ℕ
own x = operand_here (head_of x).code (head_of x).number

abbrev inner : Rtx → List ℕ
inner x = flat_map operands_in (kids_of x)

operands_out : (x : Rtx) → operands_in x ≡ own x ++ inner x
operands_out x = fold_out-Rtx (List ℕ) operands_step x ∙
    ap (λ ns. own x ++ ns) (flat_each (kids_of x))

-- what gives an operand is an operator, or a leaf
giver_is : (c : Code) → role_of c ≡ role.Operator → gives c ≡ true → is_operator_code c ≡ true
giver_is code.MatchOperator is gives_it = refl
giver_is code.MatchOperand is gives_it = absurd (let no : ⊥ = cc in no)
giver_is code.MatchScratch is gives_it = absurd (let no : ⊥ = cc in no)
giver_is _ is gives_it = absurd (false≢true gives_it)

no_leaf : (c : Code) (b : Bool) → role_of c ≡ role.Operand → not (is_operator_as c && b) ≡ true
no_leaf code.MatchOperator b is = absurd (let no : ⊥ = cc in no)
no_leaf _ b is = refl

no_itself : (c : Code) (b : Bool) → role_of c ≡ role.Itself → not (is_operator_as c && b) ≡ true
no_itself code.MatchOperator b is = absurd (let no : ⊥ = cc in no)
no_itself _ b is = refl

no_other : (c : Code) (b : Bool) → gives c && b ≡ false → not (is_operator_as c && b) ≡ true
no_other code.MatchOperator b is = ap not is
no_other _ b is = refl

module _ (k : ℕ) where
  abbrev C : ℕ
  C = cast_unsigned w64 (pos k)

  mine : (C == C) || false ≡ true
  mine = ap (λ b. b || false) (eq-eqb C C refl)

  gives_here : (c : Code) (n : ℤ) → gives c ≡ true → n ≡ pos k → has (operand_here c n) C ≡ true
  gives_here code.MatchOperand n is same = ap (λ n. (cast_unsigned w64 n == C) || false) same ∙ mine
  gives_here code.MatchScratch n is same = ap (λ n. (cast_unsigned w64 n == C) || false) same ∙ mine
  gives_here code.MatchOperator n is same = ap (λ n. (cast_unsigned w64 n == C) || false) same ∙
      mine
  gives_here _ n is same = absurd (false≢true is)

  has_own : (x : Rtx) → gives_number k x ≡ true → has (own x) C ≡ true
  has_own x is =
      let parts = and_parts (gives (head_of x).code) (int_eq (head_of x).number (pos k)) is in
      gives_here (head_of x).code (head_of x).number parts.0
      ((Decides-int_eq (head_of x).number (pos k)).0 parts.1)

  -- ---- a tree that has no operand with the number

  abbrev NoneIn : Rtx → Type 0
  NoneIn x = has (operands_in x) C ≡ false → all_pass (no_operator_of k) x ≡ true

  none_own : (c : Code) (n : ℤ) → has (operand_here c n) C ≡ false →
      not (is_operator_as c && int_eq n (pos k)) ≡ true
  none_own code.MatchOperator n none = by (int_eq n (pos k)) refl
    where
      by : (b : Bool) → int_eq n (pos k) ≡ b → not b ≡ true
      by false is = refl
      by true is = absurd (false≢true (sym none ∙ gives_here code.MatchOperator n refl
          ((Decides-int_eq n (pos k)).0 is)))
  none_own _ n none = refl

  kids_none : (xs : List Rtx) → AllByRecursion NoneIn xs → has (flat_map operands_in xs) C ≡ false →
      list_all (all_pass (no_operator_of k)) xs ≡ true
  kids_none [] each none = refl
  kids_none (x ∷ xs) each none =
      let parts = none_of (has (operands_in x) C) (has (flat_map operands_in xs) C)
      (sym (has_both (operands_in x) (flat_map operands_in xs) C) ∙ none) in
      and_from (all_pass (no_operator_of k) x) _ (each.0 parts.0) (kids_none xs each.1 parts.1)

  none_in : (x : Rtx) → NoneIn x
  none_in = tree_induction NoneIn (λ x each none.
      let parts = none_of (has (own x) C) (has (inner x) C)
      (sym (has_both (own x) (inner x) C) ∙ ap (λ ns. has ns C) (sym (operands_out x)) ∙ none) in
      pass_out (no_operator_of k) x ∙
      and_from (no_operator_of k x) _ (none_own (head_of x).code (head_of x).number parts.0)
      (kids_none (kids_of x) each parts.1))

  every_none : (xs : List Rtx) → AllByRecursion NoneIn xs
  every_none [] = tt
  every_none (x ∷ xs) = (none_in x, every_none xs)

  -- ---- what is found has the number

  abbrev FoundIn : Rtx → Type 0
  FoundIn x = (form : Rtx) → find (gives_number k) (placeholders x) ≡ Some form →
      has (operands_in x) C ≡ true

  all_found : (xs : List Rtx) → AllByRecursion FoundIn xs → (form : Rtx) →
      find (gives_number k) (flat_map placeholders xs) ≡ Some form →
      has (flat_map operands_in xs) C ≡ true
  all_found [] each form at = absurd (let no : ⊥ = cc in no)
  all_found (x ∷ xs) each form at =
      has_both (operands_in x) (flat_map operands_in xs) C ∙
      elim (find_both (gives_number k) (placeholders x) (flat_map placeholders xs) form at) [
        | inl here ↦ or_left (has (operands_in x) C) _ (each.0 form here)
        | inr later ↦ or_right (has (operands_in x) C) _ (all_found xs each.1 form later)
      ]

  in_tree : (x : Rtx) → has (own x) C || has (inner x) C ≡ true → has (operands_in x) C ≡ true
  in_tree x is = ap (λ ns. has ns C) (operands_out x) ∙ has_both (own x) (inner x) C ∙ is

  found_as : (r : Role) (x : Rtx) → AllByRecursion FoundIn (kids_of x) → (form : Rtx) →
      find (gives_number k) (placeholders_as r x (flat_map placeholders (kids_of x))) ≡ Some form →
      has (operands_in x) C ≡ true
  found_as role.Operand x each form at = elim (find_head (gives_number k) x [] form at) [
    | inl here ↦ in_tree x (or_left (has (own x) C) _ (has_own x here.0))
    | inr none ↦ absurd (let e = none.1 in let no : ⊥ = cc in no)
  ]
  found_as role.Operator x each form at =
      elim (find_head (gives_number k) x (flat_map placeholders (kids_of x)) form at) [
        | inl here ↦ in_tree x (or_left (has (own x) C) _ (has_own x here.0))
        | inr later ↦ in_tree x (or_right (has (own x) C) _
            (all_found (kids_of x) each form later.1))
      ]
  found_as role.Itself x each form at =
      in_tree x (or_right (has (own x) C) _ (all_found (kids_of x) each form at))

  found_in : (x : Rtx) → FoundIn x
  found_in = tree_induction FoundIn (λ x each form at.
      found_as (role_of (head_of x).code) x each form
      (ap (find (gives_number k)) (sym (placeholders_out x)) ∙ at))

  every_found : (xs : List Rtx) → AllByRecursion FoundIn xs
  every_found [] = tt
  every_found (x ∷ xs) = (found_in x, every_found xs)

  -- ---- where it is no operator

  abbrev SoleIn : Rtx → Type 0
  SoleIn x = are_distinct (operands_in x) ≡ true → (form : Rtx) →
      find (gives_number k) (placeholders x) ≡ Some form →
      is_operator_code (head_of form).code ≡ false →
      all_pass (no_operator_of k) x ≡ true

  other_none : (a b : List ℕ) → AreApart a b → has b C ≡ true → has a C ≡ false
  other_none a b apart there = by (has a C) refl
    where
      by : (t : Bool) → has a C ≡ t → t ≡ false
      by false is = refl
      by true is = absurd (false≢true (sym (apart.apart C is) ∙ there))

  all_sole : (xs : List Rtx) → AllByRecursion SoleIn xs →
      are_distinct (flat_map operands_in xs) ≡ true →
      (form : Rtx) → find (gives_number k) (flat_map placeholders xs) ≡ Some form →
      is_operator_code (head_of form).code ≡ false → list_all (all_pass (no_operator_of k)) xs ≡
      true
  all_sole [] each distinct form at none = refl
  all_sole (x ∷ xs) each distinct form at none =
      let apart = split (operands_in x) (flat_map operands_in xs) distinct in
      elim (find_both (gives_number k) (placeholders x) (flat_map placeholders xs) form at) [
        | inl here ↦ and_from (all_pass (no_operator_of k) x) _ (each.0 apart.first form here none)
            (kids_none xs (every_none xs) (apart.apart C (found_in x form here)))
        | inr later ↦ and_from (all_pass (no_operator_of k) x) _
            (none_in x (other_none (operands_in x) (flat_map operands_in xs) apart
            (all_found xs (every_found xs) form later)))
            (all_sole xs each.1 apart.second form later none)
      ]

  whole : (x : Rtx) → no_operator_of k x ≡ true → list_all (all_pass (no_operator_of k)) (kids_of x)
      ≡ true →
      all_pass (no_operator_of k) x ≡ true
  whole x here rest = pass_out (no_operator_of k) x ∙ and_from (no_operator_of k x) _ here rest

  sole_as : (r : Role) (x : Rtx) → role_of (head_of x).code ≡ r →
      AllByRecursion SoleIn (kids_of x) →
      AreApart (own x) (inner x) → (form : Rtx) →
      find (gives_number k) (placeholders_as r x (flat_map placeholders (kids_of x))) ≡ Some form →
      is_operator_code (head_of form).code ≡ false → all_pass (no_operator_of k) x ≡ true
  sole_as role.Operand x is each apart form at none = elim (find_head (gives_number k) x [] form at) [
    | inl here ↦ whole x (no_leaf (head_of x).code (int_eq (head_of x).number (pos k)) is)
        (kids_none (kids_of x) (every_none (kids_of x)) (apart.apart C (has_own x here.0)))
    | inr no_one ↦ absurd (let e = no_one.1 in let no : ⊥ = cc in no)
  ]
  sole_as role.Operator x is each apart form at none =
      elim (find_head (gives_number k) x (flat_map placeholders (kids_of x)) form at) [
        | inl here ↦ absurd (false≢true (sym none ∙ ap (λ (y : Rtx).
            is_operator_code (head_of y).code) (sym here.1) ∙
            giver_is (head_of x).code is (and_parts (gives (head_of x).code) _ here.0).0))
        | inr later ↦ whole x (no_other (head_of x).code (int_eq (head_of x).number (pos k))
            later.0)
            (all_sole (kids_of x) each apart.second form later.1 none)
      ]
  sole_as role.Itself x is each apart form at none =
      whole x (no_itself (head_of x).code (int_eq (head_of x).number (pos k)) is)
      (all_sole (kids_of x) each apart.second form at none)

  pub sole_in : (x : Rtx) → SoleIn x
  sole_in = tree_induction SoleIn (λ x each distinct form at none.
      sole_as (role_of (head_of x).code) x refl each
      (split (own x) (inner x) (ap are_distinct (sym (operands_out x)) ∙ distinct)) form
      (ap (find (gives_number k)) (sym (placeholders_out x)) ∙ at) none)
