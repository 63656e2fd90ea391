-- Which file has each form of a description, told by runs of forms of one file.
use Rattle.std.specs.Prelude.{◌≡◌, nat_lt, ℕ, Bool, List, [], ◌∷◌, ◌++◌, length, replicate, find, option_map, slice_get, Option}
use Rattle.lisp_read.specs.declared.tree.Tree.{Tree}
use Rattle.md_iter.specs.declared.definition.Definitions.{Definitions}
use Rattle.md_iter.specs.Definition.{definitions_in}
use Rattle.md_iter.specs.Expansion.{forms_of_tree}
use Rattle.md_source.specs.Source.{Source}
use Rattle.lint_source.specs.declared.run.Run.{Run}
use Rattle.lint_source.specs.Stands.{FileHas}

-- the file of each form that some trees make, by the files of the trees: that of a tree stands once
-- for each form which the tree makes
abbrev pub form_files : Definitions → List (List ℕ) → List Tree → List (List ℕ)
form_files definitions (file ∷ files) (t ∷ trees) = replicate (length (forms_of_tree definitions t)) file ++ form_files definitions files trees
form_files definitions _ _ = []

-- the forms of a run end behind one
abbrev pub ends_behind : ℕ → Run → Bool
ends_behind form r = nat_lt form r.end

-- the file that runs tell of a form: that of the first run whose forms end behind it
abbrev pub file_told : List Run → ℕ → Option (List ℕ)
file_told runs form = option_map (λ (r : Run). r.file) (find (ends_behind form) runs)

-- By what is known of the files, the trees of the description of a name stand in these; and of each
-- form the file is told in which the tree stands that makes it. No file is told where there is no
-- such form.
pub record AreRuns (source : Source) (name : List ℕ) (trees : List Tree) (runs : List Run) : Type 0 where
  pub files : List (List ℕ)
  pub stand : FileHas source name files
  pub as_many : length files ≡ length trees
  pub each : (form : ℕ) → file_told runs form ≡ slice_get (form_files (definitions_in trees) files trees) form
