-- What the forms of a description that are set aside are set aside for.
use Rattle.std.specs.Prelude.{ℕ, List, Option, Some, None, Result, Ok, Err, map, option_and_then, option_map, slice_get}
use Rattle.std.specs.List.{filter_map, enumerate_from}
use Rattle.rtx_tree.specs.declared.constants.Constant.{Constant}
use Rattle.md_pattern.specs.declared.reason.Reason.{Reason}
use Rattle.md_iter.specs.declared.substitution.Instance.{Instance}
use Rattle.md_tables.specs.declared.tables.Tables.{Tables}
use Rattle.md_forms.specs.declared.form.Entry.{Entry}
use Rattle.md_forms.specs.declared.form.Form.{Form}
use Rattle.md_forms.specs.Reasons.{tables_in}
use Rattle.lint_about.specs.declared.about.About.{About}
use Rattle.lint_aside.specs.declared.cause.Aside.{Aside}
use Rattle.lint_aside.specs.declared.cause.Cause.{Cause}
use Rattle.lint_aside.specs.Others.{about_of}
use Rattle.lint_aside.specs.declared.sake.Sakes.{Sakes}
use Rattle.lint_aside.specs.Sake.{sakes_of, others_for}

-- ---- each form that is set aside

-- the reason of a form, if it is set aside
abbrev pub reason_in : Result Form Reason → Option Reason
reason_in (Ok form) = None
reason_in (Err r) = Some r

abbrev pub aside_with : ℕ → About → Reason → Aside
aside_with at about r = record { form = at; reason = r; about = about }

abbrev pub aside_by : List Constant → Tables → ℕ → Instance → Reason → Aside
aside_by constants tables at form r = aside_with at (about_of constants tables form r) r

-- a form by its index, as it is written and as it is taken, if it is set aside
abbrev pub aside_at : List Constant → Tables → List Instance → ℕ × Entry → Option Aside
aside_at constants tables instances e =
    option_and_then (λ form. option_map (aside_by constants tables e.0 form) (reason_in e.1.form)) (slice_get instances e.0)

-- those that are set aside, in order
unfoldable pub all_aside : List Constant → Tables → List Instance → List Entry → List Aside
all_aside constants tables instances forms =
    filter_map (aside_at constants tables instances) (enumerate_from 0 forms)

-- ---- the causes

abbrev pub cause_with : Aside → List ℕ → Cause
cause_with a others = record {
  form = a.form;
  reason = a.reason;
  place = a.about.place;
  about = a.about.text;
  so_aside = others;
}

abbrev pub cause_at : Sakes → List Aside → ℕ × Aside → Cause
cause_at sakes all a = cause_with a.1 (others_for sakes all a.0)

-- each with the forms that are set aside for its sake
abbrev pub causes_by : Sakes → List Aside → List Cause
causes_by sakes all = map (cause_at sakes all) (enumerate_from 0 all)

abbrev pub causes_in : List Entry → List Aside → List Cause
causes_in forms all = causes_by (sakes_of forms all) all

-- the causes of a description, by its forms as they are written and as they are taken
abbrev pub causes_of : List Constant → List Instance → List Entry → List Cause
causes_of constants instances forms =
    causes_in forms (all_aside constants (tables_in constants instances) instances forms)
