-- The units of a pipeline: GCC Internals, "Specifying processor pipeline description". What automata
-- they stand in says how a table is made of them, and has no meaning here.
use Rattle.std.specs.Prelude.{ℕ, nat_lt, List, [], ◌∷◌, ◌++◌, Option, Some, None, if◌then◌else◌, codes, length, unwrap_or, option_and_then}
use Rattle.std.specs.List.{list_any}
use Rattle.std.specs.Str.{bytes_eq}
use Rattle.lisp_read.specs.declared.tree.Tree.{Tree}
use Rattle.lisp_read.specs.Shape.{string_of, items_of, is_word}
use Rattle.md_text.specs.Lists.{members}
use Rattle.md_forms.specs.declared.form.Entry.{Entry}
use Rattle.rtx_tree.specs.Limit.{most_units}

-- both parts are strings
abbrev pub names_by : Option (List ℕ) → Option (List ℕ) → List (List ℕ)
names_by (Some text) (Some automaton) = members text
names_by _ _ = []

abbrev pub names_among : List Tree → List (List ℕ)
names_among (h ∷ n ∷ a ∷ []) =
    if is_word (codes "define_cpu_unit") h then names_by (string_of n) (string_of a) else []
names_among _ = []

abbrev pub names_of : Option Tree → List (List ℕ)
names_of None = []
names_of (Some t) = names_among (items_of t)

-- the names that a form defines: (define_cpu_unit "NAMES" "AUTOMATON")
unfoldable pub names_in : Entry → List (List ℕ)
names_in form = names_of form.timing

-- units with one of a name, if there is room
unfoldable pub with_unit : List (List ℕ) → List ℕ → Option (List (List ℕ))
with_unit units name = if list_any (λ unit. bytes_eq unit name) units then Some units
    else if nat_lt (length units) most_units then Some (units ++ name ∷ []) else None

-- with those of some names, if there is room for all
abbrev pub added : List (List ℕ) → List (List ℕ) → Option (List (List ℕ))
added units [] = Some units
added units (name ∷ names) = option_and_then (λ more. added more names) (with_unit units name)

-- a form for which there is no room defines none
unfoldable pub with_form : List (List ℕ) → Entry → List (List ℕ)
with_form units form = unwrap_or (added units (names_in form)) units

abbrev pub with_forms : List (List ℕ) → List Entry → List (List ℕ)
with_forms units [] = units
with_forms units (form ∷ forms) = with_forms (with_form units form) forms

-- the units that forms define, in the order of their first names
abbrev pub units_of : List Entry → List (List ℕ)
units_of forms = with_forms [] forms
