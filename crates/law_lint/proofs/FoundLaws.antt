-- What is found of a description is so.
use Rattle.std.proofs.Common.{◌≡◌, ℕ, zero, suc, ◌+◌, Bool, true, false, List, [], ◌∷◌, ◌++◌, Some, Result, slice_get, option_and_then, inl, inr, refl, sym, ap, subst, ◌∙◌, arith}
use Rattle.std.specs.Prelude.{Contains}
use Rattle.std.proofs.lemmas.List.Elements.{Contains-push_cases}
use Rattle.md_pattern.specs.declared.reason.Reason.{Reason}
use Rattle.md_pattern.specs.Reason.{number_of}
use Rattle.md_forms.specs.declared.form.Entry.{Entry}
use Rattle.md_forms.specs.declared.form.Form.{Form}
use Rattle.lint_judge.specs.declared.judged.Judged.{Judged}
use Rattle.lint_tried.specs.declared.instance.Instance.{Instance}
use Rattle.lint_tried.specs.Numbers.{tested_numbers}
use Rattle.lint_tried.specs.Tried.{instances_tried}
use Rattle.lint_told.specs.declared.told.AlternativeTold.{AlternativeTold}
use Rattle.lint_told.specs.declared.told.Told.{Told}
use Rattle.lint_told.specs.declared.told.Told.TheVariants as told
use Rattle.lint_told.specs.Told as telling
use Rattle.lint_told.specs.Told.{IsWrong, IsTold, InstancesTold}
use Rattle.lint_found.specs.declared.found.Finding.{Finding}
use Rattle.lint_found.specs.declared.found.Finding.TheVariants as finding
use Rattle.lint_found.specs.Found as found_by
use Rattle.lint_found.specs.Found.{AlternativesFound, FormFound, FormsFound}
use Rattle.law_lint.specs.Found.{IsRefused, AreRefusedAt, reason_in, reason_at, HasNumber, HaveNumbers, IsSo, FoundIsSo}
use Rattle.law_lint.proofs.WrongLaws.{wrong_is_refused}

-- ---- an instance that is told is one of those that are tried

further : (i : Instance) (is : List Instance) (wanted : Instance) → Contains is wanted → Contains (i ∷ is) wanted
further i is wanted (k, low, same) = (suc k, omega arith, same)

first : (i : Instance) (is : List Instance) → Contains (i ∷ is) i
first i is = (0, omega arith, refl)

pub record IsTriedWrong (forms : List Entry) (form alternative : ℕ) (is : List Instance) (i : Instance) (judged : Judged) : Type 0 where
  pub among : Contains is i
  pub wrong : IsWrong forms form alternative i judged

behind : (forms : List Entry) (form alternative : ℕ) (j : Instance) (is : List Instance) (i : Instance) (judged : Judged) →
    IsTriedWrong forms form alternative is i judged → IsTriedWrong forms form alternative (j ∷ is) i judged
behind forms form alternative j is i judged w = record { among = further j is i w.among; wrong = w.wrong }

told_wrong : (forms : List Entry) (form alternative : ℕ) (reached : Bool) (is : List Instance) (t : Told) (i : Instance) (judged : Judged) →
    InstancesTold forms form alternative reached is t → t ≡ told.Wrong i judged → IsTriedWrong forms form alternative is i judged
told_wrong forms form alternative _ _ _ i judged telling.unreached e = cc
told_wrong forms form alternative _ _ _ i judged telling.right e = cc
told_wrong forms form alternative _ _ _ i judged (telling.wrong reached k is own w) e =
    let same_instance : k ≡ i = cc in
    let same_judged : own ≡ judged = cc in
    rw (← same_instance, ← same_judged) (record { among = first k is; wrong = w })
told_wrong forms form alternative _ _ _ i judged (telling.goes_on reached j is t right rest) e =
    behind forms form alternative j is i judged (told_wrong forms form alternative true is t i judged rest e)
told_wrong forms form alternative _ _ _ i judged (telling.passes reached j is t elsewhere rest) e =
    behind forms form alternative j is i judged (told_wrong forms form alternative reached is t i judged rest e)

-- what is told of an alternative is so
is_so_told : (forms : List Entry) (form alternative : ℕ) (t : AlternativeTold) → IsTold forms (tested_numbers forms) form alternative t →
    (i : Instance) (judged : Judged) → t.told ≡ told.Wrong i judged → IsRefused forms form alternative i judged
is_so_told forms form alternative t is i judged e =
    let w : IsTriedWrong forms form alternative (instances_tried forms (tested_numbers forms) form alternative) i judged =
    told_wrong forms form alternative false (instances_tried forms (tested_numbers forms) form alternative) t.told i judged is.told_is e in
    record {
      is_tried = w.among;
      is_wrong = w.wrong;
      has_no_text = λ needs f place all piece. wrong_is_refused forms form alternative i judged w.wrong needs f place all piece;
    }

-- ---- one finding more

-- a finding by itself is so
abbrev pub OneIsSo : List Entry → Finding → Type 0
OneIsSo forms f = AreRefusedAt forms (f ∷ []) × HaveNumbers forms (f ∷ [])

only : (f g : Finding) → Contains (f ∷ []) g → f ≡ g
only f g (zero, low, is) = is
only f g (suc k, low, is) = absurd (omega arith)

a_told : (forms : List Entry) (form alternative : ℕ) (t : AlternativeTold) → IsTold forms (tested_numbers forms) form alternative t →
    OneIsSo forms (finding.Told form alternative t)
a_told forms form alternative t is = (
  (λ other at i judged tells.
      let same : finding.Told form alternative t ≡ finding.Told other at tells.all = only (finding.Told form alternative t) (finding.Told other at tells.all) tells.among in
      let same_form : form ≡ other = cc in
      let same_alternative : alternative ≡ at = cc in
      let same_told : t ≡ tells.all = cc in
      rw (← same_form, ← same_alternative) (is_so_told forms form alternative t is i judged (ap (λ (a : AlternativeTold). a.told) same_told ∙ tells.is_wrong))),
  λ other number among. no_aside other number (only (finding.Told form alternative t) (finding.Aside other number) among),
)
  where
    no_aside : (other number : ℕ) → finding.Told form alternative t ≡ finding.Aside other number → HasNumber forms other number
    no_aside other number is = cc

an_aside : (forms : List Entry) (form : ℕ) (r : Reason) → reason_at forms form ≡ Some r → OneIsSo forms (finding.Aside form (number_of r))
an_aside forms form r has = (
  (λ other at i judged tells. no_told other at i judged tells.all (only (finding.Aside form (number_of r)) (finding.Told other at tells.all) tells.among)),
  λ other number among.
      let same : finding.Aside form (number_of r) ≡ finding.Aside other number = only (finding.Aside form (number_of r)) (finding.Aside other number) among in
      let same_form : form ≡ other = cc in
      let same_number : number_of r ≡ number = cc in
      record { reason = r; has = subst (λ (f : ℕ). reason_at forms f ≡ Some r) same_form has; number_is = sym same_number },
)
  where
    no_told : (other at : ℕ) (i : Instance) (judged : Judged) (t : AlternativeTold) → finding.Aside form (number_of r) ≡ finding.Told other at t → IsRefused forms other at i judged
    no_told other at i judged t is = cc

one_more : (forms : List Entry) (found : List Finding) (f : Finding) → IsSo forms found → OneIsSo forms f → IsSo forms (found ++ f ∷ [])
one_more forms found f before one = record {
  wrong = λ form alternative i judged tells.
      elim (Contains-push_cases found f (finding.Told form alternative tells.all) tells.among) [
        | inl old ↦ before.wrong form alternative i judged (record { all = tells.all; among = old; is_wrong = tells.is_wrong })
        | inr new ↦ one.0 form alternative i judged (record { all = tells.all; among = (0, omega arith, new); is_wrong = tells.is_wrong })
      ];
  aside = λ form number among.
      elim (Contains-push_cases found f (finding.Aside form number) among) [
        | inl old ↦ before.aside form number old
        | inr new ↦ one.1 form number (0, omega arith, new)
      ];
}

-- ---- all

of_alternatives : (forms : List Entry) (form alternative : ℕ) (found all : List Finding) →
    AlternativesFound forms form alternative found all → IsSo forms found → IsSo forms all
of_alternatives forms form _ _ _ (found_by.last alternative found past) before = before
of_alternatives forms form _ _ _ (found_by.unused alternative found all is not rest) before =
    of_alternatives forms form (alternative + 1) found all rest before
of_alternatives forms form _ _ _ (found_by.used alternative t found all is enabled told rest) before =
    of_alternatives forms form (alternative + 1) (found ++ finding.Told form alternative t ∷ []) all rest
    (one_more forms found (finding.Told form alternative t) before (a_told forms form alternative t told))

of_form : (forms : List Entry) (form : ℕ) (r : Result Form Reason) (found all : List Finding) →
    option_and_then (λ (e : Entry). reason_in e.form) (slice_get forms form) ≡ reason_in r →
    FormFound forms form r found all → IsSo forms found → IsSo forms all
of_form forms form _ _ _ here (found_by.aside r found) before =
    one_more forms found (finding.Aside form (number_of r)) before (an_aside forms form r here)
of_form forms form _ _ _ here (found_by.lines f found all prints rest) before = of_alternatives forms form 0 found all rest before
of_form forms form _ _ _ here (found_by.other f found silent) before = before

-- forms from an index on are the last of all
abbrev pub AreLast : List Entry → ℕ → List Entry → Type 0
AreLast forms form es = (k : ℕ) → slice_get forms (form + k) ≡ slice_get es k

of_forms : (forms : List Entry) (form : ℕ) (es : List Entry) (found all : List Finding) →
    AreLast forms form es → FormsFound forms form es found all → IsSo forms found → IsSo forms all
of_forms forms _ _ _ _ last (found_by.none form found) before = before
of_forms forms _ _ _ _ last (found_by.next form e es found more all one rest) before =
    let at : form + 0 ≡ form = omega arith in
    let here : slice_get forms form ≡ Some e = sym (ap (slice_get forms) at) ∙ last 0 in
    of_forms forms (form + 1) es more all
    (λ k. let behind : form + 1 + k ≡ form + suc k = omega arith in ap (slice_get forms) behind ∙ last (suc k))
    rest
    (of_form forms form e.form found more (ap (option_and_then (λ (e : Entry). reason_in e.form)) here) one before)

nothing_told : (forms : List Entry) → IsSo forms []
nothing_told forms = record {
  wrong = λ form alternative i judged tells. absurd (no_element (finding.Told form alternative tells.all) tells.among);
  aside = λ form number among. absurd (no_element (finding.Aside form number) among);
}
  where
    no_element : (f : Finding) → Contains [] f → ⊥
    no_element f (k, low, is) = omega arith

pub found_is_so : FoundIsSo
found_is_so forms found are = of_forms forms 0 forms [] found (λ k. let at : 0 + k ≡ k = omega arith in ap (slice_get forms) at) are (nothing_told forms)
