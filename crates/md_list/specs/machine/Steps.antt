-- The steps of the code, for the contracts of private functions alone.
use Rattle.std.specs.Prelude.{◌≡◌, ◌≤◌, ◌<◌, ℕ, List, length, Result, Ok, Err, Vec}
use Rattle.std.specs.declared.alloc.Global.{Global}
use Rattle.lisp_read.specs.declared.tree.Tree.{Tree}
use Rattle.tree_forms.specs.Trees.{expanded}
use Rattle.rtx_tree.specs.Limit.{most_forms}
use Rattle.md_list.specs.Listing.{list_of_trees}
use Rattle.md_list.specs.declared.refusal.ListRefusal.{ListRefusal}
use Rattle.md_list.specs.declared.refusal.ListRefusal.TheVariants as refusal

-- trees were listed, or there are too many forms of them
abbrev pub GivesTrees : List Tree → Result (Vec ℕ Global) ListRefusal → Type 0
GivesTrees trees (Ok text) =
    (text.items ≡ list_of_trees trees) × (length (expanded trees) ≤ most_forms)
GivesTrees trees (Err refusal.Forms) = most_forms < length (expanded trees)
GivesTrees trees (Err refusal.Memory) = Unit {0}
GivesTrees trees (Err (refusal.Source e)) = ⊥
