-- The steps of the code, for the contracts of private functions alone.
use Rattle.std.specs.Prelude.{◌≡◌, ℕ, ◌+◌, Bool, not, List, [], ◌∷◌, ◌++◌, map, filter, length, take, drop, replicate, Some}
use Rattle.std.specs.List.{flat_map}
use Rattle.lisp_read.specs.declared.tree.Tree.{Tree}
use Rattle.lisp_read.specs.Reading.{ReadsAs, Trees}
use Rattle.md_iter.specs.declared.definition.Definitions.{Definitions}
use Rattle.md_iter.specs.Definition.{is_form, definitions_in}
use Rattle.md_iter.specs.Expansion.{forms_with}
use Rattle.md_source.specs.Source.{Source, text_of}
use Rattle.lint_source.specs.declared.arranged.Arranged.{Arranged}
use Rattle.lint_source.specs.declared.part.Part.{Part}
use Rattle.lint_source.specs.declared.run.Run.{Run}
use Rattle.lint_source.specs.Stands.{FileHas}

-- ---- the parts of files

-- the text of a name, if it is known, reads as these trees
abbrev pub FileReads : Source → List ℕ → List Tree → Type 0
FileReads source name trees = (text : List ℕ) → text_of source name ≡ Some text → ReadsAs text (Trees trees)

abbrev pub part_files : Part → List (List ℕ)
part_files p = replicate p.trees p.file

-- the file of each tree of some parts
abbrev pub files_of : List Part → List (List ℕ)
files_of parts = flat_map part_files parts

-- the parts of a file stand behind what was there
pub record Stand (source : Source) (name : List ℕ) (old new : List Part) : Type 0 where
  pub files : List (List ℕ)
  pub has : FileHas source name files
  pub behind : files_of new ≡ files_of old ++ files

-- ---- definitions first

abbrev pub is_definition : Tree → Bool
is_definition t = not (is_form t)

abbrev pub itself : Bool → Bool
itself b = b

-- trees with the definitions first, and which of them are forms
pub record IsArranged (trees : List Tree) (a : Arranged) : Type 0 where
  pub trees_are : a.trees ≡ filter is_definition trees ++ filter is_form trees
  pub definitions_are : a.definitions ≡ length (filter is_definition trees)
  pub are_forms : a.are_forms ≡ map is_form trees

-- ---- runs

-- the runs of some parts, behind so many forms
abbrev pub run_list : Definitions → ℕ → List Tree → List Part → List Run
run_list definitions before trees [] = []
run_list definitions before trees (p ∷ ps) =
    record { file = p.file; end = before + length (forms_with definitions (take p.trees trees)) } ∷ run_list definitions (before + length (forms_with definitions (take p.trees trees))) (drop p.trees trees) ps

-- the runs of all parts, which are of as many trees
pub record AreRunsOf (trees : List Tree) (parts : List Part) (runs : List Run) : Type 0 where
  pub as_many : length (files_of parts) ≡ length trees
  pub runs_are : runs ≡ run_list (definitions_in trees) 0 trees parts
