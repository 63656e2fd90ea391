-- A step of the code, for the contracts of private functions alone.
use Rattle.std.specs.Prelude.{◌≡◌, ◌≤◌, List, length, Result, Ok, Err}
use Rattle.lisp_read.specs.declared.tree.Tree.{Tree}
use Rattle.md_iter.specs.declared.expand.Expanded.{Expanded}
use Rattle.md_iter.specs.Definition.{all_constants_in}
use Rattle.tree_forms.specs.declared.refusal.DescRefusal.{DescRefusal}
use Rattle.tree_forms.specs.Trees.{expanded, IsTooMany}
use Rattle.rtx_tree.specs.Limit.{most_forms}

-- the trees were expanded
abbrev pub Expands : List Tree → Result Expanded DescRefusal → Type 0
Expands trees (Ok e) =
    (e.forms ≡ expanded trees) × (e.constants ≡ all_constants_in trees) ×
    (length (expanded trees) ≤ most_forms)
Expands trees (Err e) = IsTooMany trees e
