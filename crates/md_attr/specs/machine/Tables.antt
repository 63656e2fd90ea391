-- When a table of attributes is that of some forms: whatever is looked up in it is what the forms
-- say.
use Rattle.std.specs.Prelude.{◌≡◌, ℕ, Bool, false, not, List, [], Option, Result, Ok, Err, codes, slice_get, option_map, option_and_then}
use Rattle.std.specs.HashMap.{get_by}
use Rattle.std.specs.Option.{option_map_or}
use Rattle.std.specs.Str.{bytes_eq}
use Rattle.md_forms.specs.md_pattern.declared.reason.Reason.{Reason}
use Rattle.md_forms.specs.declared.form.Form.{Form}
use Rattle.md_forms.specs.declared.form.Entry.{Entry}
use Rattle.md_forms.specs.Checks.{alternatives}
use Rattle.md_attr.specs.declared.defaults.Defaults.{Defaults}
use Rattle.md_attr.specs.declared.settings.FormSettings.{FormSettings}
use Rattle.md_attr.specs.declared.attributes.Attributes.{Attributes}
use Rattle.md_attr.specs.Alternatives.{alternatives_of}
use Rattle.md_attr.specs.Values.{default_of, given_by, value_at, given_of, or_default}

-- ---- what stands in a table

-- what the first definition of a name gives, if there is one
abbrev pub definition_in : Defaults → List ℕ → Option (Option (List ℕ))
definition_in defaults name = get_by (λ text. bytes_eq name text.items) defaults.by_name

abbrev pub default_in : Defaults → List ℕ → Option (List ℕ)
default_in defaults name = option_and_then (λ default. default) (definition_in defaults name)

abbrev pub values_in : Attributes → List ℕ → ℕ → Option (List (List ℕ))
values_in attrs name form =
    option_and_then (λ f. given_by name f.settings) (slice_get attrs.forms form)

abbrev pub given_in : Attributes → List ℕ → ℕ → ℕ → Option (List ℕ)
given_in attrs name form alternative =
    option_and_then (value_at alternative) (values_in attrs name form)

abbrev pub value_in : Attributes → List ℕ → ℕ → ℕ → Option (List ℕ)
value_in attrs name form alternative = option_map (λ default. or_default default (given_in attrs name form alternative)) (default_in attrs.defaults name)

abbrev pub is_enabled_in : Attributes → ℕ → ℕ → Bool
is_enabled_in attrs form alternative = not (option_map_or (λ value. bytes_eq value (codes "no")) (value_in attrs (codes "enabled") form alternative) false)

abbrev pub alternatives_in : Attributes → ℕ → ℕ
alternatives_in attrs form = option_map_or (λ f. f.alternatives) (slice_get attrs.forms form) 0

-- ---- the table of some forms

abbrev pub settings_by : Result Form Reason → FormSettings
settings_by (Ok f) = record { settings = f.attributes; alternatives = alternatives f.constraints }
settings_by (Err r) = record { settings = []; alternatives = 0 }

-- what stands in the table for a form
abbrev pub settings_of : Entry → FormSettings
settings_of e = settings_by e.form

-- what is looked up is what the forms say

pub record AreAttributesOf (attrs : Attributes) (forms : List Entry) : Type 0 where
  pub defaults : (name : List ℕ) → default_in attrs.defaults name ≡ default_of forms name
  pub given : (name : List ℕ) (form alternative : ℕ) →
      given_in attrs name form alternative ≡ given_of forms name form alternative
  pub alternatives : (form : ℕ) → alternatives_in attrs form ≡ alternatives_of forms form
