-- What is found of a description, in the order of its forms: of each that is set aside its reason,
-- and of each alternative that can be used, of a form that prints lines, what is told.
use Rattle.std.specs.Prelude.{◌≡◌, ℕ, ◌+◌, ◌&&◌, Bool, true, false, not, List, [], ◌∷◌, ◌++◌, Result, Ok, Err}
use Rattle.md_desc.specs.md_forms.declared.form.Entry.{Entry}
use Rattle.md_desc.specs.md_forms.declared.form.Form.{Form}
use Rattle.md_desc.specs.md_attr.Alternatives.{IsAlternative}
use Rattle.md_constr.specs.md_attr.Values.{is_enabled}
use Rattle.md_desc.specs.md_recog.Recog.{is_instruction}
use Rattle.md_desc.specs.Recog.{is_only_split}
use Rattle.md_pattern.specs.declared.reason.Reason.{Reason}
use Rattle.md_pattern.specs.Reason.{number_of}
use Rattle.lint_tried.specs.Numbers.{tested_numbers}
use Rattle.lint_told.specs.declared.told.AlternativeTold.{AlternativeTold}
use Rattle.lint_told.specs.declared.told.Told.{Told}
use Rattle.lint_told.specs.declared.told.Told.TheVariants as told
use Rattle.lint_told.specs.Told.{IsTold}
use Rattle.lint_found.specs.declared.found.Finding.{Finding}
use Rattle.lint_found.specs.declared.found.Finding.TheVariants as finding

-- a form defines an instruction, and is not split always
abbrev pub prints : Form → Bool
prints f = is_instruction f.head && not (is_only_split f.template)

-- What is found of the alternatives of a form from one on, behind what was found before: of each
-- that can be used, what is told.
pub data AlternativesFound (forms : List Entry) (form : ℕ) : ℕ → List Finding → List Finding → Type 0 where
  last : (alternative : ℕ) (found : List Finding) → (IsAlternative forms form alternative → ⊥) →
      AlternativesFound forms form alternative found found
  unused : (alternative : ℕ) (found all : List Finding) →
      IsAlternative forms form alternative → is_enabled forms form alternative ≡ false →
      AlternativesFound forms form (alternative + 1) found all →
      AlternativesFound forms form alternative found all
  used : (alternative : ℕ) (t : AlternativeTold) (found all : List Finding) →
      IsAlternative forms form alternative → is_enabled forms form alternative ≡ true →
      IsTold forms (tested_numbers forms) form alternative t →
      AlternativesFound forms form (alternative + 1) (found ++ finding.Told form alternative t ∷ []) all →
      AlternativesFound forms form alternative found all

-- what is found of a form
pub data FormFound (forms : List Entry) (form : ℕ) : Result Form Reason → List Finding → List Finding → Type 0 where
  aside : (r : Reason) (found : List Finding) →
      FormFound forms form (Err r) found (found ++ finding.Aside form (number_of r) ∷ [])
  lines : (f : Form) (found all : List Finding) → prints f ≡ true →
      AlternativesFound forms form 0 found all → FormFound forms form (Ok f) found all
  other : (f : Form) (found : List Finding) → prints f ≡ false → FormFound forms form (Ok f) found found

-- what is found of forms, of which the first has an index
pub data FormsFound (forms : List Entry) : ℕ → List Entry → List Finding → List Finding → Type 0 where
  none : (form : ℕ) (found : List Finding) → FormsFound forms form [] found found
  next : (form : ℕ) (e : Entry) (es : List Entry) (found more all : List Finding) →
      FormFound forms form e.form found more → FormsFound forms (form + 1) es more all →
      FormsFound forms form (e ∷ es) found all

-- what is found of a description
abbrev pub AreFound : List Entry → List Finding → Type 0
AreFound forms found = FormsFound forms 0 forms [] found

-- it says that something is wrong
abbrev pub tells_wrong : Told → Bool
tells_wrong (told.Wrong instance judged) = true
tells_wrong _ = false

abbrev pub is_wrong : Finding → Bool
is_wrong (finding.Told form alternative t) = tells_wrong t.told
is_wrong _ = false
