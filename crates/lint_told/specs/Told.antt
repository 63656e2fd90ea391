-- What is told of an alternative of a form by its instances, in the order in which they are tried. One
-- is reached where the form is chosen for it at output, in this alternative; where no form splits it
-- then, it is compared with the lines that the form gives it, all registers live behind. Told is the
-- first whose lines are not equated with it; else that none is reached, since other forms or
-- alternatives take all; else neither.
use Rattle.std.specs.Prelude.{◌≡◌, ℕ, ℤ, Bool, true, false, List, [], ◌∷◌, length, Some, None}
use Rattle.rtx_tree.specs.declared.function.Insn.{Insn}
use Rattle.md_desc.specs.declared.output.Chosen.{Chosen}
use Rattle.md_desc.specs.md_forms.declared.form.Entry.{Entry}
use Rattle.md_desc.specs.md_forms.declared.form.Form.{Form}
use Rattle.md_desc.specs.Recog.{IsChosen}
use Rattle.md_desc.specs.md_attr.Alternatives.{form_at}
use Rattle.form_needs.specs.Needs.{output_facts}
use Rattle.split.specs.Split.{IsUnsplit}
use Rattle.pass_name.specs.declared.pass.Pass.TheVariants.{Split2}
use Rattle.lint_judge.specs.Judged.{IsJudged}
use Rattle.lint_judge.specs.declared.judged.Fault.{Fault}
use Rattle.lint_judge.specs.declared.judged.Judged.{Judged}
use Rattle.lint_tried.specs.Tried.{instances_tried}
use Rattle.lint_tried.specs.declared.instance.Instance.{Instance}
use Rattle.lint_told.specs.declared.told.AlternativeTold.{AlternativeTold}
use Rattle.lint_told.specs.declared.told.Told.{Told}
use Rattle.lint_told.specs.declared.told.Told.TheVariants as told

-- a choice is of this form, in this alternative
pub record IsHere (form alternative : ℕ) (c : Chosen) : Type 0 where
  pub form_is : c.form ≡ form
  pub alternative_is : c.alternative ≡ alternative

-- the form is chosen for an instance at output, in the alternative
pub record IsReached (forms : List Entry) (form alternative : ℕ) (i : Instance) (c : Chosen) : Type 0 where
  pub chosen : IsChosen forms output_facts i.insn.pattern c
  pub here : IsHere form alternative c

-- no form splits an instruction once registers have homes; no pseudo register is left then
abbrev pub IsKept : List Entry → Insn → Type 0
IsKept forms i = IsUnsplit forms Split2 0 i

-- an instance is reached, and is split before it would be printed
pub record IsReplaced (forms : List Entry) (form alternative : ℕ) (i : Instance) : Type 0 where
  pub choice : Chosen
  pub reached : IsReached forms form alternative i choice
  pub splits : IsKept forms i.insn → ⊥

-- it is not, and its lines are judged
pub record IsPrinted (forms : List Entry) (form alternative : ℕ) (i : Instance) (judged : Judged) : Type 0 where
  pub choice : Chosen
  pub reached : IsReached forms form alternative i choice
  pub kept : IsKept forms i.insn
  pub says : Form
  pub accepted : form_at forms form ≡ Some says
  pub judges : IsJudged says.template alternative choice.operands i.insn judged

-- its lines are not equated with it
pub record IsWrong (forms : List Entry) (form alternative : ℕ) (i : Instance) (judged : Judged) : Type 0 where
  pub printed : IsPrinted forms form alternative i judged
  pub fault : Fault
  pub has : judged.fault ≡ Some fault

-- it is reached, and nothing is wrong: it is split, or its lines are equated with it
pub data IsRight (forms : List Entry) (form alternative : ℕ) (i : Instance) : Type 0 where
  splits : IsReplaced forms form alternative i → IsRight forms form alternative i
  equal : (judged : Judged) → IsPrinted forms form alternative i judged → judged.fault ≡ None →
      IsRight forms form alternative i

-- another form or alternative is chosen for an instance, or none
abbrev pub IsElsewhere : List Entry → ℕ → ℕ → Instance → Type 0
IsElsewhere forms form alternative i =
    (c : Chosen) → IsChosen forms output_facts i.insn.pattern c → IsHere form alternative c → ⊥

-- What is told of some instances, where one before them was reached, or none: the first that is
-- wrong; or that none is reached; or neither.
pub data InstancesTold (forms : List Entry) (form alternative : ℕ) : Bool → List Instance → Told → Type 0 where
  unreached : InstancesTold forms form alternative false [] told.Unreached
  right : InstancesTold forms form alternative true [] told.Right
  wrong : (reached : Bool) (i : Instance) (is : List Instance) (judged : Judged) →
      IsWrong forms form alternative i judged →
      InstancesTold forms form alternative reached (i ∷ is) (told.Wrong i judged)
  goes_on : (reached : Bool) (i : Instance) (is : List Instance) (t : Told) →
      IsRight forms form alternative i → InstancesTold forms form alternative true is t →
      InstancesTold forms form alternative reached (i ∷ is) t
  passes : (reached : Bool) (i : Instance) (is : List Instance) (t : Told) →
      IsElsewhere forms form alternative i → InstancesTold forms form alternative reached is t →
      InstancesTold forms form alternative reached (i ∷ is) t

-- what is told of an alternative of a form, and of how many instances, by the numbers in the tests
-- of the description
pub record IsTold (forms : List Entry) (tested : List ℤ) (form alternative : ℕ) (t : AlternativeTold) : Type 0 where
  pub tried_is : t.tried ≡ length (instances_tried forms tested form alternative)
  pub told_is : InstancesTold forms form alternative false (instances_tried forms tested form alternative) t.told
