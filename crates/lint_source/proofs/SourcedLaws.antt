-- What is read and described is the description.
use Rattle.std.proofs.Common.{◌≡◌, ◌≤◌, ℕ, List, length, Ok, sym, subst}
use Rattle.rtx_tree.specs.Limit.{most_forms}
use Rattle.rtx_tree.specs.declared.constants.Constant.{Constant}
use Rattle.lisp_read.specs.declared.tree.Tree.{Tree}
use Rattle.md_iter.specs.declared.substitution.Instance.{Instance}
use Rattle.md_iter.specs.Definition.{all_constants_in}
use Rattle.md_forms.specs.declared.form.Entry.{Entry}
use Rattle.md_source.specs.Source.{Source, DescriptionComes}
use Rattle.md_source.specs.declared.refusal.SourceRefusal.{SourceRefusal}
use Rattle.md_source.specs.declared.refusal.SourceRefusal.TheVariants as source_refusal
use Rattle.md_named.specs.Named.{source_refused}
use Rattle.run_refusal.specs.declared.refusal.Refusal.{Refusal}
use Rattle.run_refusal.specs.declared.refusal.Refusal.TheVariants as refusal
use Rattle.tree_forms.specs.Trees.{expanded, forms_of}
use Rattle.lint_source.specs.Sourced.{IsSourced, IsNoComparison}

pub is_sourced : (source : Source) (name : List ℕ) (trees : List Tree) (forms : List Entry) (instances : List Instance) (constants : List Constant) →
    DescriptionComes source name (Ok trees) → length (expanded trees) ≤ most_forms → forms ≡ forms_of trees → instances ≡ expanded trees → constants ≡ all_constants_in trees →
    IsSourced source name (record { description = forms; trees = trees; instances = instances; constants = constants })
is_sourced source name trees forms instances constants come few forms_are instances_are constants_are =
    record { come = come; few = few; forms_are = forms_are; instances_are = instances_are; constants_are = constants_are }

-- the refusal of a run for that of the files compares nothing
pub of_files : (e : SourceRefusal) (r : Refusal) → r ≡ source_refused e → IsNoComparison r
of_files e r is = subst IsNoComparison (sym is) (go e)
  where
    go : (e : SourceRefusal) → IsNoComparison (source_refused e)
    go source_refusal.ReadFault = tt
    go source_refusal.Memory = tt
    go source_refusal.Depth = tt
    go source_refusal.Text = tt
    go source_refusal.Include = tt
    go (source_refusal.Syntax file place) = tt

-- nor does want of memory
pub of_memory : (e : Refusal) → e ≡ refusal.Memory → IsNoComparison e
of_memory e is = subst IsNoComparison (sym is) tt
