-- The plain forms, part by part, and which rows stand for a part.
use Rattle.std.specs.Prelude.{◌≡◌, ℕ, true, List, [], ◌∷◌, map, take, drop}
use Rattle.std.specs.List.{list_all}
use Rattle.md_forms.specs.declared.form.Entry.{Entry}
use Rattle.plain_forms.specs.Forms.{plain_forms}
use Rattle.plain_held.specs.declared.row.Row.{Row}
use Rattle.plain_held.specs.declared.part.Part.{Part}
use Rattle.plain_held.specs.declared.part.Part.TheVariants.{Constraints, Predicates, Moves, Sums, Quotients, Bits, Shifts, Extensions, Truncations, Orders, Equalities, StandardComparisons, Jumps, SumsJoined}
use Rattle.plain_held.specs.Rows.{entry_of, is_whole_row}

-- rows stand for entries, each for that at its place, and their conditions and statements are trees
pub record AreRows (entries : List Entry) (rows : List Row) : Type 0 where
  pub stand : map entry_of rows ≡ entries
  pub whole : list_all is_whole_row rows ≡ true

-- so many plain forms from a place on
abbrev pub forms_from : ℕ → ℕ → List Entry
forms_from place count = take count (drop place plain_forms)

-- the forms of a part
abbrev pub forms_in : Part → List Entry
forms_in Constraints = forms_from 0 4
forms_in Predicates = forms_from 4 3
forms_in Moves = forms_from 7 9
forms_in Sums = forms_from 16 8
forms_in Quotients = forms_from 24 10
forms_in Bits = forms_from 34 9
forms_in Shifts = forms_from 43 9
forms_in Extensions = forms_from 52 10
forms_in Truncations = forms_from 62 5
forms_in Orders = forms_from 67 12
forms_in Equalities = forms_from 79 12
forms_in StandardComparisons = forms_from 91 2
forms_in Jumps = forms_from 93 6
forms_in SumsJoined = forms_from 99 1

-- the parts, in the order of the forms
abbrev pub all_parts : List Part
all_parts =
    Constraints ∷ Predicates ∷ Moves ∷ Sums ∷ Quotients ∷ Bits ∷ Shifts ∷ Extensions ∷ Truncations ∷ Orders ∷ Equalities ∷ StandardComparisons ∷ Jumps ∷ SumsJoined ∷ []
