-- The forms of a description: GCC Internals, "Iterators".
use Rattle.std.specs.Prelude.{◌≡◌, ℕ, ◌+◌, ◌≤◌, ◌<◌, List, [], Result, Ok, Err, if◌then◌else◌, map, take, length}
use Rattle.std.specs.List.{flat_map}
use Rattle.lisp_read.specs.declared.tree.Tree.{Tree}
use Rattle.md_iter.specs.declared.definition.Definitions.{Definitions}
use Rattle.md_iter.specs.declared.substitution.Instance.{Instance}
use Rattle.md_iter.specs.declared.expand.Expanded.{Expanded}
use Rattle.md_iter.specs.declared.refusal.IterRefusal.{IterRefusal}
use Rattle.md_iter.specs.declared.refusal.IterRefusal.TheVariants as refusal
use Rattle.md_iter.specs.Definition.{is_form, definitions_in, all_constants_in}
use Rattle.md_iter.specs.Choice.{iterators_of, choices}
use Rattle.md_iter.specs.Substitution.{form_under}
use Rattle.rtx_tree.specs.Limit.{most_forms}

-- a form once for each choice of values of the iterators that it uses
abbrev pub forms_of_form : Definitions → Tree → List Instance
forms_of_form definitions form =
    map (form_under definitions form) (choices (iterators_of definitions.iterators form))

abbrev pub forms_of_tree : Definitions → Tree → List Instance
forms_of_tree definitions t = if is_form t then forms_of_form definitions t else []

abbrev pub forms_with : Definitions → List Tree → List Instance
forms_with definitions trees = flat_map (forms_of_tree definitions) trees

-- all forms of a description, in the order of its trees
abbrev pub forms_of : List Tree → List Instance
forms_of trees = forms_with (definitions_in trees) trees

-- the tree at which there are more than 20,000 forms for the first time
pub record PassesAt (definitions : Definitions) (trees : List Tree) (at : ℕ) : Type 0 where
  pub within : at < length trees
  pub before : length (forms_with definitions (take at trees)) ≤ most_forms
  pub after : most_forms < length (forms_with definitions (take (at + 1) trees))

-- what is told is given; a refusal is the one that is told; want of memory is free
abbrev pub Gives : List Tree → Result Expanded IterRefusal → Type 0
Gives trees (Ok e) =
    (e.forms ≡ forms_of trees) × (e.constants ≡ all_constants_in trees) ×
    (length (forms_of trees) ≤ most_forms)
Gives trees (Err (refusal.Limit at)) = PassesAt (definitions_in trees) trees at
Gives trees (Err refusal.Memory) = Unit {0}
