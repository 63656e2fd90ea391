-- What is found, one after the other.
use Rattle.std.proofs.Common.{◌≡◌, ℕ, ◌+◌, ◌-◌, ◌<◌, ◌≤◌, Bool, true, false, List, [], ◌∷◌, ◌++◌, length, drop, get_or, Ok, Err, arith, sym, subst}
use Rattle.std.specs.Prelude.{◌↔◌, IsTrue}
use Rattle.std.proofs.lemmas.List.{drop_all}
use Rattle.md_desc.specs.md_forms.declared.form.Entry.{Entry}
use Rattle.md_desc.specs.md_forms.declared.form.Form.{Form}
use Rattle.md_desc.specs.md_attr.Alternatives.{IsAlternative, alternatives_of}
use Rattle.md_constr.specs.md_attr.Values.{is_enabled}
use Rattle.md_pattern.specs.declared.reason.Reason.{Reason}
use Rattle.md_pattern.specs.Reason.{number_of}
use Rattle.lint_choices.proofs.PushedLaws.{opened}
use Rattle.lint_tried.specs.Numbers.{tested_numbers}
use Rattle.lint_told.specs.declared.told.AlternativeTold.{AlternativeTold}
use Rattle.lint_told.specs.Told.{IsTold}
use Rattle.lint_found.specs.declared.found.Finding.{Finding}
use Rattle.lint_found.specs.declared.found.Finding.TheVariants as finding
use Rattle.lint_found.specs.Found as spec
use Rattle.lint_found.specs.Found.{AlternativesFound, FormFound, FormsFound, prints}
use Rattle.lint_found.specs.machine.Steps.{AlternativeComes}

-- ---- alternatives

pub one_unused : (forms : List Entry) (form alternative : ℕ) (found : List Finding) →
    is_enabled forms form alternative ≡ false → AlternativeComes forms form alternative found found
one_unused forms form alternative found not is all rest = spec.unused alternative found all is not rest

pub one_told : (forms : List Entry) (form alternative : ℕ) (t : AlternativeTold) (found more : List Finding) →
    is_enabled forms form alternative ≡ true → IsTold forms (tested_numbers forms) form alternative t →
    more ≡ found ++ finding.Told form alternative t ∷ [] → AlternativeComes forms form alternative found more
one_told forms form alternative t found more enabled told made is all rest =
    spec.used alternative t found all is enabled told (subst (λ (fs : List Finding). AlternativesFound forms form (alternative + 1) fs all) made rest)

-- what is found of the rest from an alternative on is found of all
abbrev pub Continues : List Entry → ℕ → List Finding → ℕ → List Finding → Type 0
Continues forms form first alternative found =
    (all : List Finding) → AlternativesFound forms form alternative found all → AlternativesFound forms form 0 first all

pub one_more : (forms : List Entry) (form alternative : ℕ) (first found more : List Finding) →
    IsAlternative forms form alternative → AlternativeComes forms form alternative found more →
    Continues forms form first alternative found → Continues forms form first (alternative + 1) more
one_more forms form alternative first found more is one before all rest = before all (one is all rest)

no_answer : (answer : Bool) → answer ≡ true → answer ≡ false → ⊥
no_answer answer is isnt = cc

pub no_more : (forms : List Entry) (form alternative : ℕ) (first found : List Finding) (answer : Bool) →
    (IsTrue answer ↔ IsAlternative forms form alternative) → answer ≡ false →
    Continues forms form first alternative found → AlternativesFound forms form 0 first found
no_more forms form alternative first found answer tells past before =
    before found (spec.last alternative found (λ (is : IsAlternative forms form alternative). no_answer answer (tells.1 is) past))

pub is_shorter : (forms : List Entry) (form alternative : ℕ) → IsAlternative forms form alternative →
    alternatives_of forms form - (alternative + 1) < alternatives_of forms form - alternative
is_shorter forms form alternative is = omega arith

-- ---- forms

pub is_aside : (forms : List Entry) (form : ℕ) (e : Entry) (r : Reason) (found more : List Finding) →
    e.form ≡ Err r → more ≡ found ++ finding.Aside form (number_of r) ∷ [] → FormFound forms form e.form found more
is_aside forms form e r found more is made = rw is (rw made (spec.aside r found))

pub has_lines : (forms : List Entry) (form : ℕ) (e : Entry) (f : Form) (found more : List Finding) →
    e.form ≡ Ok f → prints f ≡ true → AlternativesFound forms form 0 found more → FormFound forms form e.form found more
has_lines forms form e f found more is some all = rw is (spec.lines f found more some all)

pub has_none : (forms : List Entry) (form : ℕ) (e : Entry) (f : Form) (found : List Finding) →
    e.form ≡ Ok f → prints f ≡ false → FormFound forms form e.form found found
has_none forms form e f found is none = rw is (spec.other f found none)

-- what is found of the rest of the forms is found of all
abbrev pub FormsContinue : List Entry → ℕ → List Finding → Type 0
FormsContinue forms at found =
    (all : List Finding) → FormsFound forms at (drop at forms) found all → FormsFound forms 0 forms [] all

pub form_more : (forms : List Entry) (at : ℕ) (e : Entry) (found more : List Finding) →
    at < length forms → e ≡ get_or forms at e → FormFound forms at e.form found more →
    FormsContinue forms at found → FormsContinue forms (at + 1) more
form_more forms at e found more within here one before all rest =
    before all (subst (λ (es : List Entry). FormsFound forms at es found all) (sym (opened forms at e within here)) (spec.next at e (drop (at + 1) forms) found more all one rest))

pub form_ends : (forms : List Entry) (at : ℕ) (found : List Finding) → length forms ≤ at →
    FormsContinue forms at found → FormsFound forms 0 forms [] found
form_ends forms at found past before =
    before found (subst (λ (es : List Entry). FormsFound forms at es found found) (sym (drop_all at forms past)) (spec.none at found))
