-- Why a form is set aside: its own text, or what the other forms of the description define and
-- don't define. A form is set aside with the smallest of its reasons.
use Rattle.std.specs.Prelude.{◌≡◌, true, List, Result, Ok, map}
use Rattle.rtx_tree.specs.declared.constants.Constant.{Constant}
use Rattle.md_iter.specs.declared.substitution.Instance.{Instance}
use Rattle.md_tables.specs.md_pattern.declared.reason.Reason.{Reason}
use Rattle.md_tables.specs.md_draft.declared.draft.Draft.{Draft}
use Rattle.md_tables.specs.md_draft.Reasons as draft
use Rattle.md_forms.specs.declared.form.Form.{Form}
use Rattle.md_tables.specs.declared.tables.Tables.{Tables}
use Rattle.md_tables.specs.Tables.{tables_of}
use Rattle.md_forms.specs.Checks.{has_reason}
use Rattle.md_forms.specs.Forms.{draft_entry, judged_form}

-- the reasons that a form has, where the forms of the description define these tables
pub data Applies (constants : List Constant) (tables : Tables) (form : Instance) : Reason → Type 0 where
  own : (r : Reason) → draft.Applies constants form.conditions form.tree r →
      Applies constants tables form r
  other : (d : Draft) (r : Reason) → (draft_entry constants form).draft ≡ Ok d →
      has_reason tables d r ≡ true → Applies constants tables form r

-- what the forms of a description define
abbrev pub tables_in : List Constant → List Instance → Tables
tables_in constants forms = tables_of (map (draft_entry constants) forms)

-- what one form of a description is, or why it is set aside
abbrev pub judged_in : List Constant → List Instance → Instance → Result Form Reason
judged_in constants forms form =
    judged_form (tables_in constants forms) (draft_entry constants form).draft
