-- The forms of a machine description's trees, expanded over its iterators (GCC Internals,
-- "Iterators"), of which there are at most 20,000.
use Rattle.std.specs.Prelude.{◌≡◌, ◌+◌, ◌≤◌, ◌<◌, ℕ, List, length, Result, Ok, Err}
use Rattle.rtx_tree.specs.declared.limit.Limit.TheVariants as limit
use Rattle.lisp_read.specs.declared.tree.Tree.{Tree}
use Rattle.md_iter.specs.declared.substitution.Instance.{Instance}
use Rattle.md_iter.specs.Definition.{all_constants_in}
use Rattle.md_iter.specs.Expansion as expansion
use Rattle.md_forms.specs.declared.form.Entry.{Entry}
use Rattle.md_forms.specs.Forms as forms
use Rattle.tree_forms.specs.declared.refusal.DescRefusal.{DescRefusal}
use Rattle.tree_forms.specs.declared.refusal.DescRefusal.TheVariants as refusal
use Rattle.rtx_tree.specs.Limit.{most_forms}

-- the forms after expansion
abbrev pub expanded : List Tree → List Instance
expanded trees = expansion.forms_of trees

-- the forms of a description's trees
abbrev pub forms_of : List Tree → List Entry
forms_of trees = forms.forms_of (all_constants_in trees) (expanded trees)

-- ---- what a call gave

-- there are too many forms, or memory ran out
abbrev pub IsTooMany : List Tree → DescRefusal → Type 0
IsTooMany trees (refusal.Limit which count) =
    (which ≡ limit.Forms) × (count ≡ most_forms + 1) × (most_forms < length (expanded trees))
IsTooMany trees refusal.Memory = Unit {0}

-- what is told is given; a refusal is the one that is told; want of memory is free
abbrev pub Gives : List Tree → Result (List Entry) DescRefusal → Type 0
Gives trees (Ok d) = (d ≡ forms_of trees) × (length (expanded trees) ≤ most_forms)
Gives trees (Err e) = IsTooMany trees e
