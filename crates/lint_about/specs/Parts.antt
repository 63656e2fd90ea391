-- The parts of a form that a reason may be about.
use Rattle.std.specs.Prelude.{ℕ, Option, Some, None}
use Rattle.std.specs.Option.{option_or}
use Rattle.lisp_read.specs.declared.tree.Tree.{Tree}
use Rattle.lisp_read.specs.Shape.{items_of}
use Rattle.md_draft.specs.declared.head.FormHead.{FormHead}
use Rattle.md_draft.specs.declared.layout.Layout.{Layout}
use Rattle.md_draft.specs.Layout as layout
use Rattle.md_draft.specs.Reasons.{head_of}
use Rattle.lint_about.specs.declared.layout.Parts.{Parts}

-- where they stand, by where all parts do
abbrev pub parts_in : Layout → Parts
parts_in l = record {
  patterns = l.patterns;
  condition = l.condition;
  output = l.output;
  split_condition = l.split_condition;
  sequence = l.sequence;
  statements = l.statements;
  attributes = l.attributes;
  test = l.test;
  definition = option_or l.test (option_or l.class l.default);
}

abbrev pub parts_by : Option FormHead → Parts
parts_by None = parts_in (layout.no_parts 0 0)
parts_by (Some h) = parts_in (layout.layout_of h)

unfoldable pub parts_of : Tree → Parts
parts_of form = parts_by (head_of form)

-- the part of a form that stands at a place
abbrev pub part_at : Tree → Option ℕ → Option Tree
part_at form place = layout.part_at (items_of form) place
