-- The list of a description's forms: a line for each, with its number, its head, its name, and
-- whether it is accepted or why it is set aside. The lines are this project's own; GCC has no such
-- list.
use Rattle.std.specs.Prelude.{◌≤◌, ◌<◌, ℕ, ◌+◌, List, [], ◌∷◌, ◌++◌, codes, length, Result, Ok, Err}
use Rattle.std.specs.Fmt.{decimal}
use Rattle.lisp_read.specs.declared.tree.Tree.{Tree}
use Rattle.md_source.specs.declared.refusal.SourceRefusal.{SourceRefusal}
use Rattle.md_source.specs.Source.{Source, DescriptionComes}
use Rattle.tree_forms.specs.Trees.{expanded, forms_of}
use Rattle.rtx_tree.specs.Limit.{most_forms}
use Rattle.md_pattern.specs.declared.reason.Reason.{Reason}
use Rattle.md_pattern.specs.Reason.{number_of}
use Rattle.md_forms.specs.declared.form.Form.{Form}
use Rattle.md_forms.specs.declared.form.Entry.{Entry}
use Rattle.md_forms.specs.Forms.{names_of}
use Rattle.md_list.specs.declared.refusal.ListRefusal.{ListRefusal}
use Rattle.md_list.specs.declared.refusal.ListRefusal.TheVariants as refusal

-- ok, or aside with the number of the reason
abbrev pub verdict : Result Form Reason → List ℕ
verdict (Ok form) = codes "ok"
verdict (Err reason) = codes "aside " ++ decimal (number_of reason)

-- the line of a form
abbrev pub line_with : ℕ → List ℕ → List ℕ → Result Form Reason → List ℕ
line_with index head name form =
    decimal index ++ (32 ∷ (head ++ (32 ∷ (name ++ (32 ∷ (verdict form ++ 10 ∷ []))))))

-- the lines of some forms that are shown under some names, numbered from a number on
abbrev pub lines_from : ℕ → List Entry → List (List ℕ) → List ℕ
lines_from index (e ∷ es) (name ∷ names) =
    line_with index e.head name e.form ++ lines_from (index + 1) es names
lines_from index _ _ = []

-- the lines of all forms, in order
abbrev pub list_of : List Entry → List ℕ
list_of es = lines_from 0 es (names_of es)

-- the list of a description's trees
abbrev pub list_of_trees : List Tree → List ℕ
list_of_trees trees = list_of (forms_of trees)

-- What the list of a description comes to, by what is known of the files: its text, or the refusal.
-- The files are read first.
pub data ListComes (source : Source) (name : List ℕ) : Result (List ℕ) ListRefusal → Type 0 where
  refused : (e : SourceRefusal) → DescriptionComes source name (Err e) →
      ListComes source name (Err (refusal.Source e))
  too_many : (trees : List Tree) → DescriptionComes source name (Ok trees) →
      most_forms < length (expanded trees) → ListComes source name (Err refusal.Forms)
  listed : (trees : List Tree) → DescriptionComes source name (Ok trees) →
      length (expanded trees) ≤ most_forms → ListComes source name (Ok (list_of_trees trees))
