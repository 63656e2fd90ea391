-- The accepted forms of a description, by their numbers and by the names that they define, and how
-- many alternatives they have: GCC Internals, "Multiple Alternative Constraints". Of a name that is
-- defined twice the first definition counts, also where it is set aside.
use Rattle.std.specs.Prelude.{ℕ, ◌<◌, Bool, false, List, Option, Some, None, Result, Ok, Err, find, slice_get, option_and_then, if◌then◌else◌}
use Rattle.std.specs.Option.{option_map_or}
use Rattle.std.specs.Str.{bytes_eq}
use Rattle.md_forms.specs.md_pattern.declared.reason.Reason.{Reason}
use Rattle.md_forms.specs.md_draft.declared.head.FormHead.{FormHead}
use Rattle.md_forms.specs.md_draft.Head.{head_named}
use Rattle.md_forms.specs.declared.form.Form.{Form}
use Rattle.md_forms.specs.declared.form.Entry.{Entry}
use Rattle.md_forms.specs.Checks.{alternatives}

abbrev pub accepted_of : Result Form Reason → Option Form
accepted_of (Ok f) = Some f
accepted_of (Err r) = None

-- what a form says, if it is accepted
abbrev pub accepted : Entry → Option Form
accepted e = accepted_of e.form

-- ---- by their names

abbrev pub has_name : List ℕ → Option (List ℕ) → Bool
has_name name None = false
has_name name (Some n) = bytes_eq n name

-- the name that a form defines, be it accepted or set aside, if its head defines what is asked for
abbrev pub defined : (Option FormHead → Bool) → Entry → Option (List ℕ)
defined kind e = if kind (head_named e.head) then e.name else None

abbrev pub defines : (Option FormHead → Bool) → List ℕ → Entry → Bool
defines kind name e = has_name name (defined kind e)

-- the first definition of a name
abbrev pub definition_of : (Option FormHead → Bool) → List Entry → List ℕ → Option Entry
definition_of kind forms name = find (defines kind name) forms

-- ---- by their numbers

-- the accepted form with an index
abbrev pub form_at : List Entry → ℕ → Option Form
form_at forms form = option_and_then accepted (slice_get forms form)

-- the number of its alternatives, which is 1 for a form without constraints; 0 where there is no
-- accepted form with that index
abbrev pub alternatives_of : List Entry → ℕ → ℕ
alternatives_of forms form = option_map_or (λ f. alternatives f.constraints) (form_at forms form) 0

-- form is the index of an accepted form, and alternative is below the number of its alternatives
abbrev pub IsAlternative : List Entry → ℕ → ℕ → Type 0
IsAlternative forms form alternative = alternative < alternatives_of forms form
