-- What a description is told of is so: an instance that is found wrong is one of those that are tried,
-- its form is chosen for it at output, and its lines are not equated with it, so it comes to no text
-- where it is refused (`Refused.antt`); and what is found aside is a form that has the reason of the
-- number that is told.
use Rattle.std.specs.Prelude.{◌≡◌, ℕ, true, Contains, List, Option, Some, None, Result, Ok, Err, option_and_then, slice_get}
use Rattle.rtx_tree.specs.declared.function.Function.{Function}
use Rattle.md_pattern.specs.declared.reason.Reason.{Reason}
use Rattle.md_pattern.specs.Reason.{number_of}
use Rattle.md_forms.specs.declared.form.Entry.{Entry}
use Rattle.md_forms.specs.declared.form.Form.{Form}
use Rattle.form_needs.specs.Needs.{needs_form}
use Rattle.lint_judge.specs.declared.judged.Judged.{Judged}
use Rattle.lint_tried.specs.declared.instance.Instance.{Instance}
use Rattle.lint_tried.specs.Numbers.{tested_numbers}
use Rattle.lint_tried.specs.Tried.{instances_tried}
use Rattle.lint_told.specs.declared.told.AlternativeTold.{AlternativeTold}
use Rattle.lint_told.specs.declared.told.Told.TheVariants as told
use Rattle.lint_told.specs.Told.{IsWrong}
use Rattle.lint_found.specs.declared.found.Finding.{Finding}
use Rattle.lint_found.specs.declared.found.Finding.TheVariants as finding
use Rattle.lint_found.specs.Found.{AreFound}
use Rattle.law_lint.specs.Refused.{HasAllLive, HasNoText}

-- ---- wrong

-- one of some findings tells of an alternative of a form that an instance is wrong
pub record TellsWrong (found : List Finding) (form alternative : ℕ) (i : Instance) (judged : Judged) : Type 0 where
  pub all : AlternativeTold
  pub among : Contains found (finding.Told form alternative all)
  pub is_wrong : all.told ≡ told.Wrong i judged

-- an instance of an alternative is tried and wrong, and refused at output
pub record IsRefused (forms : List Entry) (form alternative : ℕ) (i : Instance) (judged : Judged) : Type 0 where
  pub is_tried : Contains (instances_tried forms (tested_numbers forms) form alternative) i
  pub is_wrong : IsWrong forms form alternative i judged
  pub has_no_text : needs_form i.insn ≡ true → (f : Function) (place : ℕ) → HasAllLive f place → HasNoText forms f place i.insn

-- so it is with each that is told
abbrev pub AreRefusedAt : List Entry → List Finding → Type 0
AreRefusedAt forms found = (form alternative : ℕ) (i : Instance) (judged : Judged) →
    TellsWrong found form alternative i judged → IsRefused forms form alternative i judged

-- ---- aside

abbrev pub reason_in : Result Form Reason → Option Reason
reason_in (Ok f) = None
reason_in (Err r) = Some r

-- the reason of the form with an index, if there is one and it is set aside
abbrev pub reason_at : List Entry → ℕ → Option Reason
reason_at forms form = option_and_then (λ (e : Entry). reason_in e.form) (slice_get forms form)

-- a form has a reason, which has a number
pub record HasNumber (forms : List Entry) (form number : ℕ) : Type 0 where
  pub reason : Reason
  pub has : reason_at forms form ≡ Some reason
  pub number_is : number ≡ number_of reason

-- so it is with each that is told
abbrev pub HaveNumbers : List Entry → List Finding → Type 0
HaveNumbers forms found =
    (form number : ℕ) → Contains found (finding.Aside form number) → HasNumber forms form number

-- ---- the law

pub record IsSo (forms : List Entry) (found : List Finding) : Type 0 where
  pub wrong : AreRefusedAt forms found
  pub aside : HaveNumbers forms found

abbrev pub FoundIsSo : Type 0
FoundIsSo = (forms : List Entry) (found : List Finding) → AreFound forms found → IsSo forms found
