-- The values of attributes: GCC Internals, "Defining Attributes and their Values", "Assigning
-- Attribute Values to Insns" and "Disabling insn alternatives using the enabled attribute".
use Rattle.std.specs.Prelude.{ℕ, Bool, false, not, List, [], ◌∷◌, Option, Some, None, codes, find, slice_get, option_map, option_and_then, if◌then◌else◌}
use Rattle.std.specs.Option.{option_map_or}
use Rattle.std.specs.Str.{bytes_eq}
use Rattle.md_forms.specs.md_draft.declared.draft.Attribute.{Attribute}
use Rattle.md_forms.specs.declared.form.Entry.{Entry}
use Rattle.md_forms.specs.md_tables.Tables.{defines_attribute}
use Rattle.md_attr.specs.Alternatives.{accepted, definition_of, form_at}

-- ---- definitions

-- the default that a form gives, if it is accepted
abbrev pub default_by : Entry → Option (List ℕ)
default_by e = option_map (λ f. f.default) (accepted e)

-- the default of an attribute. There is an attribute where the first definition of its name is
-- accepted
abbrev pub default_of : List Entry → List ℕ → Option (List ℕ)
default_of forms name = option_and_then default_by (definition_of defines_attribute forms name)

-- ---- what forms give

-- the values that the first of some settings of an attribute gives it
abbrev pub given_by : List ℕ → List Attribute → Option (List (List ℕ))
given_by name settings = option_map (λ a. a.values) (find (λ a. bytes_eq a.name name) settings)

-- the value of an alternative: one value alone is that of each
abbrev pub value_at : ℕ → List (List ℕ) → Option (List ℕ)
value_at alternative (v ∷ []) = Some v
value_at alternative values = slice_get values alternative

-- the value that a form gives an attribute in an alternative
abbrev pub given_of : List Entry → List ℕ → ℕ → ℕ → Option (List ℕ)
given_of forms name form alternative = option_and_then (value_at alternative) (option_and_then (λ f. given_by name f.attributes) (form_at forms form))

-- ---- values

-- the default stands where no value is given, or a star
abbrev pub or_default : List ℕ → Option (List ℕ) → List ℕ
or_default default None = default
or_default default (Some value) = if bytes_eq value (codes "*") then default else value

-- the value of an attribute in an alternative of a form; none where there is no such attribute
abbrev pub value_of : List Entry → List ℕ → ℕ → ℕ → Option (List ℕ)
value_of forms name form alternative = option_map (λ default. or_default default (given_of forms name form alternative)) (default_of forms name)

-- an alternative can be used, unless the attribute `enabled` has the value `no` there
abbrev pub is_enabled : List Entry → ℕ → ℕ → Bool
is_enabled forms form alternative = not (option_map_or (λ value. bytes_eq value (codes "no")) (value_of forms (codes "enabled") form alternative) false)
