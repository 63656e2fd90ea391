-- Each alternative of the plain forms is enabled, and a form's constraints are those of its entry.
use Rattle.std.proofs.Common.{◌≡◌, ℕ, ◌<◌, true, false, not, List, codes, Some, None, Ok, refl, sym, ap, subst, ◌∙◌}
use Rattle.std.specs.Prelude.{option_map, option_and_then, slice_get}
use Rattle.std.specs.Option.{option_map_or}
use Rattle.std.specs.Str.{bytes_eq}
use Rattle.md_forms.specs.declared.form.Entry.{Entry}
use Rattle.md_forms.specs.declared.form.Form.{Form}
use Rattle.md_forms.specs.md_tables.md_draft.Head.{head_named}
use Rattle.md_forms.specs.md_tables.Tables.{defines_attribute}
use Rattle.md_forms.specs.Checks.{alternatives}
use Rattle.reload_fit.specs.md_desc.md_attr.Alternatives.{accepted_of, accepted, definition_of, form_at, alternatives_of}
use Rattle.reload_fit.specs.md_desc.md_attr.Values.{default_by, given_of, or_default, is_enabled}
use Rattle.plain_forms.specs.Forms.{plain_forms}

no_attribute : definition_of defines_attribute plain_forms (codes "enabled") ≡ None
unfolding plain_forms head_named
no_attribute = refl

pub enabled : (form alternative : ℕ) → is_enabled plain_forms form alternative ≡ true
enabled form alternative =
    ap (λ o. not (option_map_or (λ value. bytes_eq value (codes "no")) (option_map (λ default. or_default default (given_of plain_forms (codes "enabled") form alternative)) (option_and_then default_by o)) false)) no_attribute

module _ (forms : List Entry) (form : ℕ) (e : Entry) (f : Form) (at : slice_get forms form ≡ Some e) (says : e.form ≡ Ok f) where
  pub form_is : form_at forms form ≡ Some f
  form_is = ap (option_and_then accepted) at ∙ ap accepted_of says

  pub below : (n : ℕ) → n < alternatives f.constraints → n < alternatives_of forms form
  below n less = subst (λ k. n < k) (sym (ap (λ o. option_map_or (λ (f : Form). alternatives f.constraints) o 0) form_is)) less
