-- What is looked up in the table of some forms is what the forms say.
use Rattle.std.proofs.Common.{◌≡◌, ℕ, false, codes, List, Option, Some, None, Result, Ok, Err, map, refl, ap, ◌∙◌}
use Rattle.std.specs.Prelude.{not, slice_get}
use Rattle.std.specs.Str.{bytes_eq}
use Rattle.std.specs.Option.{option_map, option_map_or, option_and_then}
use Rattle.std.proofs.lemmas.Option.{slice_get-map}
use Rattle.md_forms.specs.md_pattern.declared.reason.Reason.{Reason}
use Rattle.md_forms.specs.declared.form.Form.{Form}
use Rattle.md_forms.specs.declared.form.Entry.{Entry}
use Rattle.md_forms.specs.Checks.{alternatives}
use Rattle.md_attr.specs.declared.attributes.Attributes.{Attributes}
use Rattle.md_attr.specs.declared.settings.FormSettings.{FormSettings}
use Rattle.md_attr.specs.Alternatives.{accepted, accepted_of, alternatives_of}
use Rattle.md_attr.specs.Values.{given_by, value_at, given_of, or_default, value_of, is_enabled}
use Rattle.md_attr.specs.machine.Tables.{default_in, value_in, is_enabled_in, settings_by, settings_of, AreAttributesOf}

given_here : (name : List ℕ) (r : Result Form Reason) → given_by name (settings_by r).settings ≡ option_and_then (λ f. given_by name f.attributes) (accepted_of r)
given_here name (Ok f) = refl
given_here name (Err r) = refl

given_there : (name : List ℕ) (e : Option Entry) → option_and_then (λ f. given_by name f.settings) (option_map settings_of e) ≡ option_and_then (λ f. given_by name f.attributes) (option_and_then accepted e)
given_there name None = refl
given_there name (Some e) = given_here name e.form

pub given_same : (table : List FormSettings) (forms : List Entry) (name : List ℕ) (form alternative : ℕ) → table ≡ map settings_of forms
    → option_and_then (value_at alternative) (option_and_then (λ f. given_by name f.settings) (slice_get table form)) ≡ given_of forms name form alternative
given_same table forms name form alternative is =
    ap (λ (t : List FormSettings). option_and_then (value_at alternative) (option_and_then (λ f. given_by name f.settings) (slice_get t form))) is
    ∙ ap (option_and_then (value_at alternative)) (ap (option_and_then (λ (f : FormSettings). given_by name f.settings)) (slice_get-map settings_of forms form) ∙ given_there name (slice_get forms form))

counted_here : (r : Result Form Reason) → (settings_by r).alternatives ≡ option_map_or (λ f. alternatives f.constraints) (accepted_of r) 0
counted_here (Ok f) = refl
counted_here (Err r) = refl

counted_there : (e : Option Entry) → option_map_or (λ f. f.alternatives) (option_map settings_of e) 0 ≡ option_map_or (λ f. alternatives f.constraints) (option_and_then accepted e) 0
counted_there None = refl
counted_there (Some e) = counted_here e.form

pub counted_same : (table : List FormSettings) (forms : List Entry) (form : ℕ) → table ≡ map settings_of forms → option_map_or (λ f. f.alternatives) (slice_get table form) 0 ≡ alternatives_of forms form
counted_same table forms form is =
    ap (λ (t : List FormSettings). option_map_or (λ f. f.alternatives) (slice_get t form) 0) is
    ∙ ap (λ (s : Option FormSettings). option_map_or (λ f. f.alternatives) s 0) (slice_get-map settings_of forms form) ∙ counted_there (slice_get forms form)

-- ---- a table of some forms

pub value_same : (attrs : Attributes) (forms : List Entry) (name : List ℕ) (form alternative : ℕ) → AreAttributesOf attrs forms → value_in attrs name form alternative ≡ value_of forms name form alternative
value_same attrs forms name form alternative are =
    ap (λ (given : Option (List ℕ)). option_map (λ default. or_default default given) (default_in attrs.defaults name)) (are.given name form alternative)
    ∙ ap (option_map (λ default. or_default default (given_of forms name form alternative))) (are.defaults name)

pub enabled_same : (attrs : Attributes) (forms : List Entry) (form alternative : ℕ) → AreAttributesOf attrs forms → is_enabled_in attrs form alternative ≡ is_enabled forms form alternative
enabled_same attrs forms form alternative are =
    ap (λ (value : Option (List ℕ)). not (option_map_or (λ v. bytes_eq v (codes "no")) value false)) (value_same attrs forms (codes "enabled") form alternative are)
