-- Which forms are set aside for the sake of one: it defines what their reason is about, or what the
-- reason of a form is about for the sake of which they are.
use Rattle.std.specs.Prelude.{ℕ, zero, suc, ◌==◌, Bool, false, not, ◌&&◌, ◌||◌, List, Option, Some, None, map, if◌then◌else◌, option_and_then, slice_get, position}
use Rattle.std.specs.List.{count_by, enumerate_from, filter_map}
use Rattle.std.specs.Str.{bytes_eq}
use Rattle.md_pattern.specs.declared.reason.Reason.{Reason}
use Rattle.md_pattern.specs.declared.reason.Reason.TheVariants as reason
use Rattle.md_forms.specs.md_draft.declared.head.FormHead.{FormHead}
use Rattle.md_forms.specs.md_draft.Head.{head_named}
use Rattle.md_tables.specs.Tables.{defines_predicate, defines_constraint, defines_attribute}
use Rattle.md_forms.specs.declared.form.Entry.{Entry}
use Rattle.lint_aside.specs.declared.cause.Aside.{Aside}
use Rattle.lint_aside.specs.declared.sake.Sakes.{Sakes}

-- what a head defines is what the reason asks for
abbrev pub is_kind : Option FormHead → Reason → Bool
is_kind head reason.Predicate = defines_predicate head
is_kind head reason.Constraint = defines_constraint head
is_kind head reason.Attribute = defines_attribute head
is_kind head _ = false

abbrev pub is_name : List ℕ → Option (List ℕ) → Bool
is_name name None = false
is_name name (Some own) = bytes_eq own name

-- the form defines what the reason asks for, under a name
abbrev pub defines : Reason → List ℕ → Entry → Bool
defines r name e = is_name name e.name && is_kind (head_named e.head) r

abbrev pub defines_at : Reason → List ℕ → Option Entry → Bool
defines_at r name None = false
defines_at r name (Some e) = defines r name e

-- one form that is set aside defines what the reason of another is about
abbrev pub is_asked : List Entry → Aside → Aside → Bool
is_asked forms a b =
    not (b.form == a.form) && defines_at a.reason a.about.text (slice_get forms b.form)

-- for each of those that are set aside, the place of the first that it asks for
abbrev pub asked_by : List Entry → List Aside → Aside → Option ℕ
asked_by forms all a = position (is_asked forms a) all

unfoldable pub all_asked : List Entry → List Aside → List (Option ℕ)
all_asked forms all = map (asked_by forms all) all

-- whether a form asks for one, or for one that asks for it in turn, within so many steps
abbrev pub leads : (ℕ → Bool) → ℕ → Option ℕ → Bool
leads more to None = false
leads more to (Some next) = next == to || more next

abbrev pub next_of : List (Option ℕ) → ℕ → Option ℕ
next_of asked from = option_and_then (λ next. next) (slice_get asked from)

abbrev pub comes_to : ℕ → List (Option ℕ) → ℕ → ℕ → Bool
comes_to zero asked to from = false
comes_to (suc steps) asked to from = leads (comes_to steps asked to) to (next_of asked from)

abbrev pub is_definition : Option FormHead → Bool
is_definition head = defines_predicate head || (defines_constraint head || defines_attribute head)

abbrev pub defines_any : Option Entry → Bool
defines_any None = false
defines_any (Some e) = is_definition (head_named e.head)

abbrev pub is_asked_for : List Entry → Aside → Bool
is_asked_for forms a = defines_any (slice_get forms a.form)

-- as many steps as there are definitions that are set aside: more of them meet one once more
unfoldable pub steps_of : List Entry → List Aside → ℕ
steps_of forms all = count_by (is_asked_for forms) all

-- for whose sake forms are set aside: what each asks for, and how many steps lead further
unfoldable pub sakes_of : List Entry → List Aside → Sakes
sakes_of forms all = record { asked = all_asked forms all; steps = steps_of forms all }

-- the form at one place is set aside for the sake of that at another
abbrev pub is_for : Sakes → ℕ → ℕ → Bool
is_for sakes to from = not (from == to) && comes_to sakes.steps sakes.asked to from

abbrev pub if_for : Sakes → ℕ → ℕ × Aside → Option ℕ
if_for sakes to a = if is_for sakes to a.0 then Some a.1.form else None

-- the others that are set aside for the sake of the one at a place
abbrev pub others_for : Sakes → List Aside → ℕ → List ℕ
others_for sakes all to = filter_map (if_for sakes to) (enumerate_from 0 all)
