-- The first form of a name whose condition holds, by the first forms of the name.
use Rattle.std.proofs.Common.{◌≡◌, ℕ, ◌+◌, ◌<◌, ◌≤◌, Bool, true, false, ◌&&◌, cond, List, [], ◌∷◌, ◌++◌, length, drop, get_or, Option, Some, None, refl, sym, ap, ◌∙◌, arith, length-append, length-drop}
use Rattle.std.specs.Prelude.{slice_get}
use Rattle.std.proofs.lemmas.List.{drop-drop, get_or-drop}
use Rattle.std.proofs.lemmas.Option.{slice_get_read}
use Rattle.std.proofs.Math.Seq.{drop-append-add, get_or-append_seam}
use Rattle.std.specs.List.{position_from}
use Rattle.std.specs.Option.{option_map_or}
use Rattle.md_match.specs.Pattern.{Ops}
use Rattle.md_forms.specs.declared.form.Entry.{Entry}
use Rattle.md_pred.specs.Holds.{holds}
use Rattle.md_emit.specs.Named.{is_named_form, named}
use Rattle.lower_insn.specs.Plan.{is_met_by, is_form, first_form}
use Rattle.lower_insn.specs.machine.Forms.{is_met_at}

-- ---- a list, and the first of it that passes a test

-- the first that passes a test stands behind some that don't
record Stands {A : Type 0} (test other : A → Bool) (i : ℕ) (xs : List A) (k : ℕ) : Type 0 where
  front : List A
  x : A
  rest : List A
  is : xs ≡ front ++ x ∷ rest
  place : k ≡ i + length front
  both : position_from (λ x. test x && other x) i xs ≡ cond (other x) (Some k) (position_from (λ x. test x && other x) (k + 1) rest)

stands_more : {A : Type 0} (test other : A → Bool) (i : ℕ) (y : A) (xs : List A) (k : ℕ) → test y ≡ false → Stands test other (i + 1) xs k → Stands test other i (y ∷ xs) k
stands_more {A = A} test other i y xs k not s = record {
  front = y ∷ s.front;
  x = s.x;
  rest = s.rest;
  is = ap (λ (ys : List A). y ∷ ys) s.is;
  place = omega (arith, s.place);
  both = ap (λ b. cond (b && other y) (Some i) (position_from (λ x. test x && other x) (i + 1) xs)) not ∙ s.both;
}

stands_by : {A : Type 0} (test other : A → Bool) (i : ℕ) (y : A) (xs : List A) (k : ℕ) (b : Bool) → test y ≡ b →
    (position_from test (i + 1) xs ≡ Some k → Stands test other (i + 1) xs k) → cond b (Some i) (position_from test (i + 1) xs) ≡ Some k → Stands test other i (y ∷ xs) k
stands_by {A = A} test other i y xs k true is more found =
    let same : i ≡ k = cc in
    record {
      front = [];
      x = y;
      rest = xs;
      is = refl;
      place = omega (arith, same);
      both = ap (λ b. cond (b && other y) (Some i) (position_from (λ x. test x && other x) (i + 1) xs)) is ∙ ap (λ (j : ℕ). cond (other y) (Some j) (position_from (λ x. test x && other x) (j + 1) xs)) same;
    }
stands_by test other i y xs k false is more found = stands_more test other i y xs k is (more found)

stands : {A : Type 0} (test other : A → Bool) (i : ℕ) (xs : List A) (k : ℕ) → position_from test i xs ≡ Some k → Stands test other i xs k
stands test other i [] k found = absurd (let never : ⊥ = cc in never)
stands test other i (y ∷ xs) k found = stands_by test other i y xs k (test y) refl (λ more. stands test other (i + 1) xs k more) found

-- where it stands in the whole list
record IsAt {A : Type 0} (xs : List A) (k : ℕ) (x : A) (rest : List A) : Type 0 where
  at : slice_get xs k ≡ Some x
  behind : drop (k + 1) xs ≡ rest
  within : k < length xs

is_at : {A : Type 0} (xs front : List A) (x : A) (rest : List A) (from : ℕ) → drop from xs ≡ front ++ x ∷ rest → IsAt xs (from + length front) x rest
is_at {A = A} xs front x rest from is =
    let long : length (drop from xs) ≡ length front + length (x ∷ rest) = ap length is ∙ length-append front (x ∷ rest) in
    let below : from + length front < length xs = omega (arith, long, length-drop from xs) in
    let here : get_or xs (from + length front) x ≡ x = sym (get_or-drop from xs (length front) x) ∙ (ap (λ (ys : List A). get_or ys (length front) x) is ∙ get_or-append_seam front x rest x) in
    record {
      at = slice_get_read xs (length xs) (from + length front) x refl below (sym here);
      behind =
          ap (λ (n : ℕ). drop n xs) (let e : from + length front + 1 ≡ from + (length front + 1) = omega arith in e) ∙
          (sym (drop-drop (length front + 1) from xs) ∙ (ap (λ (ys : List A). drop (length front + 1) ys) is ∙ drop-append-add front (x ∷ rest) 1));
      within = below;
    }

-- the first of a list from an index on that passes a test, by whether it passes another
record Found {A : Type 0} (test other : A → Bool) (from : ℕ) (xs : List A) (k : ℕ) : Type 0 where
  x : A
  at : slice_get xs k ≡ Some x
  within : k < length xs
  both : position_from (λ x. test x && other x) from (drop from xs) ≡ cond (other x) (Some k) (position_from (λ x. test x && other x) (k + 1) (drop (k + 1) xs))

found_by : {A : Type 0} (test other : A → Bool) (from : ℕ) (xs : List A) (k : ℕ) → position_from test from (drop from xs) ≡ Some k → Found test other from xs k
found_by {A = A} test other from xs k found =
    let s = stands test other from (drop from xs) k found in
    let at = is_at xs s.front s.x s.rest from s.is in
    record {
      x = s.x;
      at = ap (slice_get xs) s.place ∙ at.at;
      within = omega (arith, s.place, at.within);
      both = s.both ∙ ap (λ (ys : List A). cond (other s.x) (Some k) (position_from (λ x. test x && other x) (k + 1) ys)) (sym (ap (λ (n : ℕ). drop (n + 1) xs) s.place ∙ at.behind));
    }

-- where none passes the one test, none passes both
none_both : {A : Type 0} (test other : A → Bool) (i : ℕ) (xs : List A) → position_from test i xs ≡ None → position_from (λ x. test x && other x) i xs ≡ None
none_both test other i [] none = refl
none_both test other i (x ∷ xs) none = by (test x) (λ more. none_both test other (i + 1) xs more) none
  where
    by : (b : Bool) → (position_from test (i + 1) xs ≡ None → position_from (λ x. test x && other x) (i + 1) xs ≡ None) →
        cond b (Some i) (position_from test (i + 1) xs) ≡ None → cond (b && other x) (Some i) (position_from (λ x. test x && other x) (i + 1) xs) ≡ None
    by true more e = absurd (let never : ⊥ = cc in never)
    by false more e = more e

-- ---- forms

abbrev pub met : List Entry → Ops → Entry → Bool
met forms operands e = is_met_by (holds forms) operands e.form

-- from an index on
abbrev pub first_from : List Entry → List ℕ → Ops → ℕ → Option ℕ
first_from forms name operands from = position_from (is_form (holds forms) name operands) from (drop from forms)

found_form : (forms : List Entry) (name : List ℕ) (operands : Ops) (from k : ℕ) → Some k ≡ named forms name from → Found (is_named_form name) (met forms operands) from forms k
found_form forms name operands from k found = found_by (is_named_form name) (met forms operands) from forms k (sym found)

met_at : (forms : List Entry) (operands : Ops) (k : ℕ) (e : Entry) → slice_get forms k ≡ Some e → met forms operands e ≡ is_met_at forms operands k
met_at forms operands k e at = sym (ap (λ o. option_map_or (met forms operands) o false) at)

pub found_from : (forms : List Entry) (name : List ℕ) (from k : ℕ) → Some k ≡ named forms name from → from ≤ k
found_from forms name from k found =
    let s = stands (is_named_form name) (met forms []) from (drop from forms) k (sym found) in
    omega (arith, s.place)

pub found_within : (forms : List Entry) (name : List ℕ) (from k : ℕ) → Some k ≡ named forms name from → k < length forms
found_within forms name from k found = (found_form forms name [] from k found).within

pub first_here : (forms : List Entry) (name : List ℕ) (operands : Ops) (from k : ℕ) → Some k ≡ named forms name from → is_met_at forms operands k ≡ true →
    first_from forms name operands from ≡ first_form forms name operands → Some k ≡ first_form forms name operands
first_here forms name operands from k found holds so =
    let f = found_form forms name operands from k found in
    sym (ap (λ b. cond b (Some k) (first_from forms name operands (k + 1))) (met_at forms operands k f.x f.at ∙ holds)) ∙ (sym f.both ∙ so)

pub first_behind : (forms : List Entry) (name : List ℕ) (operands : Ops) (from k : ℕ) → Some k ≡ named forms name from → is_met_at forms operands k ≡ false →
    first_from forms name operands from ≡ first_form forms name operands → first_from forms name operands (k + 1) ≡ first_form forms name operands
first_behind forms name operands from k found fails so =
    let f = found_form forms name operands from k found in
    sym (ap (λ b. cond b (Some k) (first_from forms name operands (k + 1))) (met_at forms operands k f.x f.at ∙ fails)) ∙ (sym f.both ∙ so)

pub first_nowhere : (forms : List Entry) (name : List ℕ) (operands : Ops) (from : ℕ) → None ≡ named forms name from → first_from forms name operands from ≡ first_form forms name operands →
    None ≡ first_form forms name operands
first_nowhere forms name operands from none so = sym (none_both (is_named_form name) (met forms operands) from (drop from forms) (sym none)) ∙ so
