-- What is looked up in the table of some forms is what the forms say.
use Rattle.std.proofs.Common.{◌≡◌, ℕ, Bool, false, List, Option, Some, None, Result, Ok, Err, map, refl, ap, ◌∙◌}
use Rattle.std.proofs.Math.Path.{fun_ext}
use Rattle.std.specs.Prelude.{slice_get}
use Rattle.std.specs.Option.{option_map, option_map_or, option_and_then}
use Rattle.std.proofs.lemmas.Option.{slice_get-map}
use Rattle.rtx_tree.specs.declared.tree.Rtx.{Rtx}
use Rattle.pred_rows.specs.Tests.{Accepts}
use Rattle.md_forms.specs.md_pattern.declared.reason.Reason.{Reason}
use Rattle.md_forms.specs.declared.form.Form.{Form}
use Rattle.md_forms.specs.declared.form.Entry.{Entry}
use Rattle.md_forms.specs.Checks.{alternatives}
use Rattle.md_attr.specs.Alternatives.{accepted, accepted_of, alternatives_of}
use Rattle.md_constr.specs.declared.forms.FormConstraints.{FormConstraints}
use Rattle.md_constr.specs.declared.table.Constraints.{Constraints}
use Rattle.md_constr.specs.Admits.{name_admits}
use Rattle.md_constr.specs.Inputs.{operands_of, inputs_of, changed_of}
use Rattle.md_constr.specs.Fits.{Named, each_of, constraint_admits, fit_together, fits_alone, fits, number_fits, number_admits}
use Rattle.md_constr.specs.machine.Tables.{constraints_in, none_asked, constraints_by, constraints_of, found_number_fits, number_fits_in, found_number_admits, number_admits_in, name_admits_in, found_fits, fits_in, alternatives_in, AreConstraintsOf}

-- ---- operands that fit

module _ (named : Named) (alternative : ℕ) (operands : List (Option Rtx)) where
  form_fits : Form → Bool
  form_fits f = fit_together named (operands_of f) (inputs_of f) (changed_of f) operands alternative f.constraints

  fits_here : (r : Result Form Reason) → found_fits named alternative operands (constraints_by r) ≡ option_map_or form_fits (accepted_of r) false
  unfolding form_fits
  fits_here (Ok f) = refl
  fits_here (Err r) = refl

  fits_there : (e : Option Entry) → option_map_or (found_fits named alternative operands) (option_map constraints_of e) false ≡ option_map_or form_fits (option_and_then accepted e) false
  fits_there None = refl
  fits_there (Some e) = fits_here e.form

  fits_found : (table : List FormConstraints) (forms : List Entry) (form : ℕ) → table ≡ map constraints_of forms
      → option_map_or (found_fits named alternative operands) (slice_get table form) false ≡ option_map_or (λ f. fit_together named (operands_of f) (inputs_of f) (changed_of f) operands alternative f.constraints) (option_and_then accepted (slice_get forms form)) false
  unfolding form_fits
  fits_found table forms form is =
      ap (λ (t : List FormConstraints). option_map_or (found_fits named alternative operands) (slice_get t form) false) is
      ∙ ap (λ (o : Option FormConstraints). option_map_or (found_fits named alternative operands) o false) (slice_get-map constraints_of forms form) ∙ fits_there (slice_get forms form)

pub fits_same : (table : Constraints) (forms : List Entry) (accepts : Accepts) (form alternative : ℕ) (operands : List (Option Rtx)) → AreConstraintsOf table forms
    → fits_in table accepts form alternative operands ≡ fits forms accepts form alternative operands
fits_same table forms accepts form alternative operands are =
    let named : name_admits_in table.meanings accepts ≡ name_admits forms accepts = fun_ext (λ name. fun_ext (λ x. are.names accepts name x)) in
    ap (λ (n : Named). option_map_or (found_fits n alternative operands) (slice_get table.forms form) false) named
    ∙ fits_found (name_admits forms accepts) alternative operands table.forms forms form are.rows

-- ---- one operand alone

module _ (test : Named → FormConstraints → Bool) (says : Named → Form → Bool)
    (of_form : (named : Named) (f : Form) → test named (constraints_in f) ≡ says named f)
    (of_none : (named : Named) → test named none_asked ≡ false) where
  row_here : (named : Named) (r : Result Form Reason) → test named (constraints_by r) ≡ option_map_or (says named) (accepted_of r) false
  row_here named (Ok f) = of_form named f
  row_here named (Err r) = of_none named

  row_there : (named : Named) (e : Option Entry) → option_map_or (test named) (option_map constraints_of e) false ≡ option_map_or (says named) (option_and_then accepted e) false
  row_there named None = refl
  row_there named (Some e) = row_here named e.form

  row_same : (table : Constraints) (forms : List Entry) (accepts : Accepts) (form : ℕ) → AreConstraintsOf table forms
      → option_map_or (test (name_admits_in table.meanings accepts)) (slice_get table.forms form) false ≡ option_map_or (says (name_admits forms accepts)) (option_and_then accepted (slice_get forms form)) false
  row_same table forms accepts form are =
      let named : name_admits_in table.meanings accepts ≡ name_admits forms accepts = fun_ext (λ name. fun_ext (λ x. are.names accepts name x)) in
      ap (λ (n : Named). option_map_or (test n) (slice_get table.forms form) false) named
      ∙ ap (λ (t : List FormConstraints). option_map_or (test (name_admits forms accepts)) (slice_get t form) false) are.rows
      ∙ ap (λ (o : Option FormConstraints). option_map_or (test (name_admits forms accepts)) o false) (slice_get-map constraints_of forms form)
      ∙ row_there (name_admits forms accepts) (slice_get forms form)

pub number_fits_same : (table : Constraints) (forms : List Entry) (accepts : Accepts) (form alternative : ℕ) (operands : List (Option Rtx)) (number : ℕ) → AreConstraintsOf table forms
    → number_fits_in table accepts form alternative operands number ≡ number_fits forms accepts form alternative operands number
number_fits_same table forms accepts form alternative operands number are =
    row_same (λ named c. found_number_fits named alternative operands number c) (λ named f. fits_alone named (inputs_of f) (changed_of f) operands alternative number f.constraints) (λ named f. refl) (λ named. refl) table forms accepts form are

pub number_admits_same : (table : Constraints) (forms : List Entry) (accepts : Accepts) (form alternative : ℕ) (operands : List (Option Rtx)) (number : ℕ) (x : Rtx) → AreConstraintsOf table forms
    → number_admits_in table accepts form alternative operands number x ≡ number_admits forms accepts form alternative operands number x
number_admits_same table forms accepts form alternative operands number x are =
    row_same (λ named c. found_number_admits named alternative operands number x c) (λ named f. each_of number (constraint_admits named operands alternative x) f.constraints) (λ named f. refl) (λ named. refl) table forms accepts form are

-- ---- alternatives

counted_here : (r : Result Form Reason) → (constraints_by r).alternatives ≡ option_map_or (λ f. alternatives f.constraints) (accepted_of r) 0
counted_here (Ok f) = refl
counted_here (Err r) = refl

counted_there : (e : Option Entry) → option_map_or (λ c. c.alternatives) (option_map constraints_of e) 0 ≡ option_map_or (λ f. alternatives f.constraints) (option_and_then accepted e) 0
counted_there None = refl
counted_there (Some e) = counted_here e.form

pub counted_same : (table : Constraints) (forms : List Entry) (form : ℕ) → AreConstraintsOf table forms → alternatives_in table form ≡ alternatives_of forms form
counted_same table forms form are =
    ap (λ (t : List FormConstraints). option_map_or (λ c. c.alternatives) (slice_get t form) 0) are.rows
    ∙ ap (λ (o : Option FormConstraints). option_map_or (λ c. c.alternatives) o 0) (slice_get-map constraints_of forms form) ∙ counted_there (slice_get forms form)
