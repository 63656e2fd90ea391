-- A description as it is tried: its forms, the trees that they come of, and where each begins.
use Rattle.std.specs.Prelude.{◌≡◌, ◌≤◌, ℕ, List, length, Ok}
use Rattle.rtx_tree.specs.Limit.{most_forms}
use Rattle.rtx_tree.specs.declared.place.Place.{Place}
use Rattle.lisp_read.specs.Shape.{place_of}
use Rattle.md_iter.specs.declared.substitution.Instance.{Instance}
use Rattle.md_iter.specs.Definition.{all_constants_in}
use Rattle.md_source.specs.Source.{Source, DescriptionComes}
use Rattle.tree_forms.specs.Trees.{expanded, forms_of}
use Rattle.run_refusal.specs.declared.refusal.Refusal.{Refusal}
use Rattle.run_refusal.specs.declared.refusal.Refusal.TheVariants as refusal
use Rattle.lint_source.specs.declared.source.Sourced.{Sourced}

-- a refusal is not that of two sides that differ
abbrev pub IsNoComparison : Refusal → Type 0
IsNoComparison (refusal.NotEquated function uid rule item left right) = ⊥
IsNoComparison e = Unit {0}

-- the place at which a form begins
abbrev pub form_place : Instance → Place
form_place form = place_of form.tree

-- By what is known of the files, the description of a name comes to these trees, of which there are
-- these forms, written so.
pub record IsSourced (source : Source) (name : List ℕ) (s : Sourced) : Type 0 where
  pub come : DescriptionComes source name (Ok s.trees)
  pub few : length (expanded s.trees) ≤ most_forms
  pub forms_are : s.description ≡ forms_of s.trees
  pub instances_are : s.instances ≡ expanded s.trees
  pub constants_are : s.constants ≡ all_constants_in s.trees
