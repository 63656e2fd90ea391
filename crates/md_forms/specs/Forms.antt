-- The forms of a description, accepted or set aside, and the names under which they are shown.
use Rattle.std.specs.Prelude.{ℕ, Bool, List, [], ◌∷◌, ◌++◌, Option, Some, None, Result, Ok, Err, map}
use Rattle.std.specs.List.{count_by}
use Rattle.std.specs.Str.{bytes_eq}
use Rattle.std.specs.Fmt.{decimal}
use Rattle.rtx_tree.specs.declared.constants.Constant.{Constant}
use Rattle.md_tables.specs.md_pattern.declared.reason.Reason.{Reason}
use Rattle.md_forms.specs.declared.form.Form.{Form}
use Rattle.md_forms.specs.declared.form.Entry.{Entry}
use Rattle.md_tables.specs.md_draft.declared.draft.Draft.{Draft}
use Rattle.md_tables.specs.md_draft.declared.draft.DraftEntry.{DraftEntry}
use Rattle.md_tables.specs.declared.tables.Tables.{Tables}
use Rattle.md_iter.specs.declared.substitution.Instance.{Instance}
use Rattle.md_tables.specs.md_draft.Draft.{entry_of}
use Rattle.md_tables.specs.Tables.{tables_of}
use Rattle.md_forms.specs.Checks.{form_of}
use Rattle.md_forms.specs.Shown.{shown_name}

abbrev pub judged_form : Tables → Result Draft Reason → Result Form Reason
judged_form tables (Ok d) = form_of tables d
judged_form tables (Err r) = Err r

abbrev pub finished : Tables → DraftEntry → Entry
finished tables e = record { head = e.head; name = e.name; form = judged_form tables e.draft; timing = e.timing }

abbrev pub forms_in : List DraftEntry → List Entry
forms_in es = map (finished (tables_of es)) es

-- what the own text of a form says
abbrev pub draft_entry : List Constant → Instance → DraftEntry
draft_entry constants form = entry_of constants form.conditions form.tree

-- each form in order, with its parts, or the smallest reason that applies to it
abbrev pub forms_of : List Constant → List Instance → List Entry
forms_of constants forms = forms_in (map (draft_entry constants) forms)

-- ---- names

abbrev pub has_head : List ℕ → Entry → Bool
has_head head e = bytes_eq e.head head

-- how many of some forms have a head
abbrev pub count_of : List ℕ → List Entry → ℕ
count_of head es = count_by (has_head head) es

-- HEAD@NUMBER
abbrev pub numbered : List ℕ → ℕ → List ℕ
numbered head k = head ++ (64 ∷ decimal k)

-- the name of a form, or its head with its number
abbrev pub shown : Option (List ℕ) → List ℕ → ℕ → List ℕ
shown (Some name) head k = shown_name name
shown None head k = numbered head k

-- the name under which a form e behind some others is shown: a form without a name has its head and its number among
-- those of the head
abbrev pub name_behind : List Entry → Entry → List ℕ
name_behind front e = shown e.name e.head (count_of e.head front)

-- the names of some forms behind some others, in order
abbrev pub names_behind : List Entry → List Entry → List (List ℕ)
names_behind front [] = []
names_behind front (e ∷ es) = name_behind front e ∷ names_behind (front ++ e ∷ []) es

-- the names of all forms of a description
abbrev pub names_of : List Entry → List (List ℕ)
names_of es = names_behind [] es
