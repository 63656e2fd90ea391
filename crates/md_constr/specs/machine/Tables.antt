-- When a table of constraints is that of some forms: whatever is looked up in it is what the forms
-- say.
use Rattle.std.specs.Prelude.{◌≡◌, ℕ, Bool, true, false, ◌&&◌, List, [], Option, Result, Ok, Err, map, slice_get}
use Rattle.std.specs.HashMap.{get_by}
use Rattle.std.specs.Option.{option_map_or}
use Rattle.std.specs.Str.{bytes_eq}
use Rattle.rtx_tree.specs.declared.code.Mode.TheVariants.{Void}
use Rattle.rtx_tree.specs.declared.tree.Rtx.{Rtx}
use Rattle.pred_rows.specs.Tests.{Accepts}
use Rattle.pred_rows.specs.machine.Rows.{holds_at}
use Rattle.md_forms.specs.md_pattern.declared.reason.Reason.{Reason}
use Rattle.md_forms.specs.declared.form.Form.{Form}
use Rattle.md_forms.specs.declared.form.Entry.{Entry}
use Rattle.md_forms.specs.Checks.{alternatives}
use Rattle.md_attr.specs.Alternatives.{accepted}
use Rattle.md_constr.specs.declared.meaning.Meaning.{Meaning}
use Rattle.md_constr.specs.declared.meaning.Meaning.TheVariants as meaning
use Rattle.md_constr.specs.declared.meanings.Meanings.{Meanings}
use Rattle.md_constr.specs.declared.forms.FormConstraints.{FormConstraints}
use Rattle.md_constr.specs.declared.table.Constraints.{Constraints}
use Rattle.md_constr.specs.Admits.{class_admits, form_admits, name_admits}
use Rattle.md_constr.specs.Inputs.{operands_of, inputs_of, changed_of}
use Rattle.md_constr.specs.Fits.{Named, each_of, constraint_admits, fit_together, fits_alone}

-- ---- what a name means in a table

abbrev pub meaning_admits : Meaning → Accepts → Rtx → Bool
meaning_admits (meaning.Registers k) accepts x = class_admits k x
meaning_admits (meaning.Test rows root) accepts x = holds_at accepts x Void rows root

-- the first definition of a name may be set aside, and admits nothing then
abbrev pub definition_admits : Option Meaning → Accepts → Rtx → Bool
definition_admits m accepts x = option_map_or (λ found. meaning_admits found accepts x) m false

-- what the first definition of a name means, if there is one
abbrev pub meaning_in : Meanings → List ℕ → Option (Option Meaning)
meaning_in meanings name = get_by (λ text. bytes_eq name text.items) meanings.by_name

abbrev pub name_admits_in : Meanings → Accepts → List ℕ → Rtx → Bool
name_admits_in meanings accepts name x =
    option_map_or (λ found. definition_admits found accepts x) (meaning_in meanings name) false

-- ---- what a definition means

abbrev pub entry_admits : Entry → Accepts → Rtx → Bool
entry_admits e accepts x = option_map_or (λ f. form_admits accepts f x) (accepted e) false

-- ---- the table of some forms

abbrev pub constraints_in : Form → FormConstraints
constraints_in f = record { accepted = true; constraints = f.constraints; operands = operands_of f; inputs = inputs_of f; changed = changed_of f; alternatives = alternatives f.constraints }

-- a form that is set aside asks for nothing
abbrev pub none_asked : FormConstraints
none_asked = record { accepted = false; constraints = []; operands = []; inputs = []; changed = []; alternatives = 0 }

abbrev pub constraints_by : Result Form Reason → FormConstraints
constraints_by (Ok f) = constraints_in f
constraints_by (Err r) = none_asked

-- what stands in the table for a form
abbrev pub constraints_of : Entry → FormConstraints
constraints_of e = constraints_by e.form

-- ---- what is asked of a table

-- whether operands fit an alternative of a form that stands in a table
abbrev pub found_fits : Named → ℕ → List (Option Rtx) → FormConstraints → Bool
found_fits named alternative operands c =
    c.accepted &&
    fit_together named c.operands c.inputs c.changed operands alternative c.constraints

abbrev pub fits_in : Constraints → Accepts → ℕ → ℕ → List (Option Rtx) → Bool
fits_in table accepts form alternative operands = option_map_or (found_fits (name_admits_in table.meanings accepts) alternative operands) (slice_get table.forms form) false

abbrev pub found_number_fits : Named → ℕ → List (Option Rtx) → ℕ → FormConstraints → Bool
found_number_fits named alternative operands number c =
    c.accepted && fits_alone named c.inputs c.changed operands alternative number c.constraints

abbrev pub number_fits_in : Constraints → Accepts → ℕ → ℕ → List (Option Rtx) → ℕ → Bool
number_fits_in table accepts form alternative operands number = option_map_or (found_number_fits (name_admits_in table.meanings accepts) alternative operands number) (slice_get table.forms form) false

abbrev pub found_number_admits : Named → ℕ → List (Option Rtx) → ℕ → Rtx → FormConstraints → Bool
found_number_admits named alternative operands number x c =
    c.accepted && each_of number (constraint_admits named operands alternative x) c.constraints

abbrev pub number_admits_in : Constraints → Accepts → ℕ → ℕ → List (Option Rtx) → ℕ → Rtx → Bool
number_admits_in table accepts form alternative operands number x = option_map_or (found_number_admits (name_admits_in table.meanings accepts) alternative operands number x) (slice_get table.forms form) false

abbrev pub alternatives_in : Constraints → ℕ → ℕ
alternatives_in table form = option_map_or (λ c. c.alternatives) (slice_get table.forms form) 0

-- what is looked up is what the forms say
pub record AreConstraintsOf (table : Constraints) (forms : List Entry) : Type 0 where
  pub names : (accepts : Accepts) (name : List ℕ) (x : Rtx) →
      name_admits_in table.meanings accepts name x ≡ name_admits forms accepts name x
  pub rows : table.forms ≡ map constraints_of forms
