-- A step of the code, for the contracts of private functions alone.
use Rattle.std.specs.Prelude.{◌≡◌, ◌+◌, ◌≤◌, ◌<◌, List, length, Result, Ok, Err}
use Rattle.rtx_tree.specs.declared.limit.Limit.TheVariants as limit
use Rattle.lisp_read.specs.declared.tree.Tree.{Tree}
use Rattle.md_forms.specs.declared.form.Entry.{Entry}
use Rattle.tree_forms.specs.Trees.{expanded, forms_of}
use Rattle.rtx_tree.specs.Limit.{most_forms}
use Rattle.run_refusal.specs.declared.refusal.Refusal.{Refusal}
use Rattle.run_refusal.specs.declared.refusal.Refusal.TheVariants as refusal

-- trees were described, or there are too many forms of them
abbrev pub DescribesRun : List Tree → Result (List Entry) Refusal → Type 0
DescribesRun trees (Ok d) = (d ≡ forms_of trees) × (length (expanded trees) ≤ most_forms)
DescribesRun trees (Err refusal.Memory) = Unit {0}
DescribesRun trees (Err (refusal.Limit which count)) =
    (which ≡ limit.Forms) × (count ≡ most_forms + 1) × (most_forms < length (expanded trees))
DescribesRun trees (Err e) = ⊥
