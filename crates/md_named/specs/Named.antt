-- What the description of a name comes to: its forms, or the first refusal. Its files are read
-- first, and then its forms are counted.
use Rattle.std.specs.Prelude.{◌+◌, ◌≤◌, ◌<◌, List, ℕ, length, Result, Ok, Err}
use Rattle.rtx_tree.specs.Limit.{most_bytes, most_open, most_within, most_forms}
use Rattle.rtx_tree.specs.declared.limit.Limit.TheVariants as limit
use Rattle.lisp_read.specs.declared.tree.Tree.{Tree}
use Rattle.md_source.specs.declared.refusal.SourceRefusal.{SourceRefusal}
use Rattle.md_source.specs.declared.refusal.SourceRefusal.TheVariants as source_refusal
use Rattle.md_source.specs.Source.{Source, DescriptionComes}
use Rattle.md_forms.specs.declared.form.Entry.{Entry}
use Rattle.tree_forms.specs.Trees.{expanded, forms_of}
use Rattle.run_refusal.specs.declared.refusal.Refusal.{Refusal}
use Rattle.run_refusal.specs.declared.refusal.Refusal.TheVariants as refusal

-- the refusal of a run for that of the files
abbrev pub source_refused : SourceRefusal → Refusal
source_refused (source_refusal.Syntax file place) = refusal.Syntax file place
source_refused source_refusal.Depth = refusal.Limit limit.Depth (most_open + 1)
source_refused source_refusal.Include = refusal.Limit limit.Include (most_within + 1)
source_refused source_refusal.Text = refusal.Limit limit.Text (most_bytes + 1)
source_refused source_refusal.ReadFault = refusal.ReadFault
source_refused source_refusal.Memory = refusal.Memory

pub data FormsCome (source : Source) (name : List ℕ) : Result (List Entry) Refusal → Type 0 where
  refused : (e : SourceRefusal) → DescriptionComes source name (Err e) →
      FormsCome source name (Err (source_refused e))
  too_many : (trees : List Tree) → DescriptionComes source name (Ok trees) →
      most_forms < length (expanded trees) →
      FormsCome source name (Err (refusal.Limit limit.Forms (most_forms + 1)))
  described : (trees : List Tree) → DescriptionComes source name (Ok trees) →
      length (expanded trees) ≤ most_forms → FormsCome source name (Ok (forms_of trees))
