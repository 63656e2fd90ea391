-- What comes of the form for an instance, by which form is chosen for it.
use Rattle.std.proofs.Common.{◌≡◌, ℕ, List, Option, Some, None, refl, sym, subst, ◌∙◌}
use Rattle.std.specs.Prelude.{◌↔◌, true, false, is_some}
use Rattle.rtx_tree.specs.declared.tree.Rtx.{Rtx}
use Rattle.rtx_tree.specs.declared.function.Insn.{Insn}
use Rattle.pass_name.specs.declared.pass.Pass.TheVariants.{Split2}
use Rattle.split.specs.Split.{IsSplit, IsUnsplit}
use Rattle.md_desc.specs.declared.output.Chosen.{Chosen}
use Rattle.md_desc.specs.md_forms.declared.form.Entry.{Entry}
use Rattle.md_desc.specs.md_forms.declared.form.Form.{Form}
use Rattle.md_desc.specs.md_attr.Alternatives.{form_at}
use Rattle.md_desc.specs.Recog.{IsChosen, NoneMatchesOut}
use Rattle.form_needs.specs.Needs.{output_facts}
use Rattle.lint_judge.specs.Judged.{IsJudged}
use Rattle.lint_judge.specs.declared.judged.Fault.{Fault}
use Rattle.lint_judge.specs.declared.judged.Judged.{Judged}
use Rattle.lint_tried.specs.declared.instance.Instance.{Instance}
use Rattle.lint_told.specs.Told.{IsHere, IsReached, IsKept, IsPrinted, IsWrong, IsRight, splits, equal, IsElsewhere}

-- a form splits it
pub is_split : (forms : List Entry) (next : ℕ) (i : Insn) (form : ℕ) (sequence : List Rtx) → IsSplit forms Split2 next i form sequence → IsUnsplit forms Split2 next i → ⊥
is_split forms next i form sequence one none = none form sequence one.splits

-- the form is chosen here
pub is_reached : (forms : List Entry) (form alternative : ℕ) (i : Instance) (c : Chosen) (r : Option Chosen) →
    ((d : Chosen) → (r ≡ Some d) ↔ IsChosen forms output_facts i.insn.pattern d) → r ≡ Some c → IsHere form alternative c → IsReached forms form alternative i c
is_reached forms form alternative i c r first is here = record { chosen = (first c).0 is; here = here }

pub is_replaced : (forms : List Entry) (form alternative : ℕ) (i : Instance) (c : Chosen) →
    IsReached forms form alternative i c → (IsKept forms i.insn → ⊥) → IsRight forms form alternative i
is_replaced forms form alternative i c reached divides = splits (record { choice = c; reached = reached; splits = divides })

pub is_printed : (forms : List Entry) (form alternative : ℕ) (i : Instance) (c : Chosen) (says : Form) (judged : Judged) →
    IsReached forms form alternative i c → IsKept forms i.insn → form_at forms form ≡ Some says →
    IsJudged says.template alternative c.operands i.insn judged → IsPrinted forms form alternative i judged
is_printed forms form alternative i c says judged reached kept accepted judges =
    record { choice = c; reached = reached; kept = kept; says = says; accepted = accepted; judges = judges }

-- ---- whether its lines have a fault

none_of : (o : Option Fault) → is_some o ≡ false → o ≡ None
none_of None e = refl
none_of (Some f) e = cc

some_of : (o : Option Fault) → is_some o ≡ true → (f : Fault) × (o ≡ Some f)
some_of None e = cc
some_of (Some f) e = (f, refl)

pub is_right : (forms : List Entry) (form alternative : ℕ) (i : Instance) (judged : Judged) →
    is_some judged.fault ≡ false → IsPrinted forms form alternative i judged → IsRight forms form alternative i
is_right forms form alternative i judged none printed = equal judged printed (none_of judged.fault none)

pub is_wrong : (forms : List Entry) (form alternative : ℕ) (i : Instance) (judged : Judged) →
    is_some judged.fault ≡ true → IsPrinted forms form alternative i judged → IsWrong forms form alternative i judged
is_wrong forms form alternative i judged some printed =
    let got : (f : Fault) × (judged.fault ≡ Some f) = some_of judged.fault some in
    record { printed = printed; fault = got.0; has = got.1 }

-- ---- another form is chosen

same_chosen : (c d : Chosen) → Some c ≡ Some d → c ≡ d
same_chosen c d e = cc

-- another is chosen
pub is_other : (forms : List Entry) (form alternative : ℕ) (i : Instance) (c : Chosen) (r : Option Chosen) →
    ((d : Chosen) → (r ≡ Some d) ↔ IsChosen forms output_facts i.insn.pattern d) → r ≡ Some c → (IsHere form alternative c → ⊥) → IsElsewhere forms form alternative i
is_other forms form alternative i c r first is other d chosen here =
    other (subst (IsHere form alternative) (sym (same_chosen c d (sym is ∙ (first d).1 chosen))) here)

-- none is
pub is_none : (forms : List Entry) (form alternative : ℕ) (i : Instance) → NoneMatchesOut forms output_facts i.insn.pattern → IsElsewhere forms form alternative i
is_none forms form alternative i none d chosen here = none d.form d.operands d.alternative chosen.matches
