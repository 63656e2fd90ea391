-- What a form says by its own text: each of its parts, or the smallest reason that one of them
-- gives. A draft is what a form's own text tells; its reasons are those up to preparation
-- statements outside.
use Rattle.std.specs.Prelude.{ℕ, Bool, ◌||◌, List, [], ◌∷◌, Option, Some, None, Err, if◌then◌else◌, codes}
use Rattle.std.specs.Str.{bytes_eq}
use Rattle.rtx_tree.specs.declared.constants.Constant.{Constant}
use Rattle.lisp_read.specs.declared.tree.Tree.{Tree}
use Rattle.lisp_read.specs.Shape.{atom_of, string_of, items_of}
use Rattle.c_cond.specs.declared.tree.Tree as cond
use Rattle.md_pattern.specs.declared.reason.Reason.TheVariants as reason
use Rattle.md_pattern.specs.declared.pattern.Patterns.{Patterns}
use Rattle.md_pattern.specs.Reason.{both, judged_map, judged_with}
use Rattle.md_compact.specs.declared.block.Block.{Block}
use Rattle.pred_expr.specs.declared.question.Test as test
use Rattle.md_draft.specs.declared.head.FormHead.{FormHead}
use Rattle.md_draft.specs.declared.head.RegisterClass.{RegisterClass}
use Rattle.md_draft.specs.declared.draft.Attribute.{Attribute}
use Rattle.md_draft.specs.declared.draft.Output.{Output}
use Rattle.md_draft.specs.declared.draft.Matched.{Matched}
use Rattle.md_draft.specs.declared.draft.Replacement.{Replacement}
use Rattle.md_draft.specs.declared.draft.Printed.{Printed}
use Rattle.md_draft.specs.declared.draft.Defined.{Defined}
use Rattle.md_draft.specs.declared.draft.Draft.{Draft}
use Rattle.md_draft.specs.declared.draft.DraftEntry.{DraftEntry}
use Rattle.md_draft.specs.Head.{head_named}
use Rattle.md_draft.specs.Layout.{layout_of, part_at, is_whole}
use Rattle.md_draft.specs.Patterns as patterns
use Rattle.md_draft.specs.Patterns.{Judged}
use Rattle.md_draft.specs.Conditions as conditions
use Rattle.md_draft.specs.Outputs as outputs
use Rattle.md_draft.specs.Parts as parts
use Rattle.md_draft.specs.Compact.{old_draft}

-- ---- each part of a form, by its head and its trees

abbrev pub patterns_in : List Constant → FormHead → List Tree → Judged Patterns
patterns_in constants h ts = patterns.patterns_in constants h (part_at ts (layout_of h).patterns)

abbrev pub condition_in : List Constant → List (List ℕ) → FormHead → List Tree → Judged cond.Tree
condition_in constants values h ts =
    conditions.condition_in constants values (part_at ts (layout_of h).condition)

abbrev pub split_condition_in : List Constant → List (List ℕ) → FormHead → List Tree →
    Judged cond.Tree
split_condition_in constants values h ts =
    conditions.split_condition_in constants values (part_at ts (layout_of h).condition) (part_at ts (layout_of h).split_condition)

abbrev pub sequence_in : List Constant → FormHead → List Tree → Judged Patterns
sequence_in constants h ts = patterns.sequence_in constants (part_at ts (layout_of h).sequence)

abbrev pub statements_in : List Constant → FormHead → List Tree → Judged cond.Tree
statements_in constants h ts =
    conditions.statements_in constants (part_at ts (layout_of h).statements)

-- the block in the compact syntax that stands in the place of an output, if one does
abbrev pub block_in : FormHead → List Tree → Option Block
block_in h ts = outputs.block_in (part_at ts (layout_of h).output)

abbrev pub output_with : Option Block → FormHead → List Tree → Judged Output
output_with block h ts = outputs.output_with block (part_at ts (layout_of h).output)

abbrev pub output_in : FormHead → List Tree → Judged Output
output_in h ts = output_with (block_in h ts) h ts

abbrev pub attributes_in : FormHead → List Tree → Judged (List Attribute)
attributes_in h ts = parts.attributes_in (part_at ts (layout_of h).attributes)

abbrev pub test_in : List Constant → FormHead → List Tree → Judged (Option test.Test)
test_in constants h ts = parts.test_in constants (part_at ts (layout_of h).test)

abbrev pub class_in : FormHead → List Tree → Judged (Option RegisterClass)
class_in h ts = parts.class_in (part_at ts (layout_of h).class)

abbrev pub values_in : FormHead → List Tree → Judged (List (List ℕ))
values_in h ts = parts.values_in (part_at ts (layout_of h).values)

abbrev pub default_in : FormHead → List Tree → Judged (List ℕ)
default_in h ts = parts.default_in (part_at ts (layout_of h).default)

-- ---- all of them

abbrev pub matched_with : Patterns → cond.Tree → Matched
matched_with ps c = record { patterns = ps; condition = c }

unfoldable pub matched_in : List Constant → List (List ℕ) → FormHead → List Tree → Judged Matched
matched_in constants values h ts =
    judged_with matched_with (patterns_in constants h ts) (condition_in constants values h ts)

abbrev pub replacement_with : cond.Tree → Patterns × cond.Tree → Replacement
replacement_with c more = record { split_condition = c; sequence = more.0; statements = more.1 }

abbrev pub made_by : Judged cond.Tree → Judged Patterns → Judged cond.Tree → Judged Replacement
made_by c ps statements = judged_with replacement_with c (both ps statements)

unfoldable pub replacement_in : List Constant → List (List ℕ) → FormHead → List Tree → Judged Replacement
replacement_in constants values h ts =
    made_by (split_condition_in constants values h ts) (sequence_in constants h ts) (statements_in constants h ts)

abbrev pub printed_with : Output → List Attribute → Printed
printed_with o given = record { output = o; attributes = given }

unfoldable pub printed_in : Option Block → FormHead → List Tree → Judged Printed
printed_in block h ts = judged_with printed_with (output_with block h ts) (attributes_in h ts)

abbrev pub defined_with : Option test.Test × Option RegisterClass → List (List ℕ) × List ℕ → Defined
defined_with x y = record { test = x.0; class = x.1; values = y.0; default = y.1 }

unfoldable pub defined_in : List Constant → FormHead → List Tree → Judged Defined
defined_in constants h ts =
    judged_with defined_with (both (test_in constants h ts) (class_in h ts)) (both (values_in h ts) (default_in h ts))

abbrev pub draft_with : FormHead → Matched × Replacement → Printed × Defined → Draft
draft_with h x y = record { head = h; matched = x.0; replacement = x.1; printed = y.0; defined = y.1 }

abbrev pub together : FormHead → Judged Matched → Judged Replacement → Judged Printed → Judged Defined →
    Judged Draft
together h m k p d = judged_with (draft_with h) (both m k) (both p d)

-- what each part of the form tells
unfoldable pub parts_draft : Option Block → List Constant → List (List ℕ) → FormHead → List Tree →
    Judged Draft
parts_draft block constants values h ts =
    together h (matched_in constants values h ts) (replacement_in constants values h ts) (printed_in block h ts) (defined_in constants h ts)

-- a form with a block says what the form without it says
abbrev pub without : Option Block → Draft → Draft
without None d = d
without (Some block) d = old_draft block d

unfoldable pub whole_draft : List Constant → List (List ℕ) → FormHead → List Tree → Judged Draft
whole_draft constants values h ts =
    judged_map (without (block_in h ts)) (parts_draft (block_in h ts) constants values h ts)

-- the draft of a form with a head
unfoldable pub draft_in : List Constant → List (List ℕ) → FormHead → List Tree → Judged Draft
draft_in constants values h ts =
    if is_whole (layout_of h) ts then whole_draft constants values h ts else Err reason.Parts

abbrev pub draft_by : List Constant → List (List ℕ) → Option FormHead → List Tree → Judged Draft
draft_by constants values None ts = Err reason.Head
draft_by constants values (Some h) ts = draft_in constants values h ts

-- ---- entries

abbrev pub some_text : Option (List ℕ) → Option (List ℕ)
some_text (Some (b ∷ rest)) = Some (b ∷ rest)
some_text _ = None

-- a form's name is its second part where that is a string of one byte or more
abbrev pub name_in : List Tree → Option (List ℕ)
name_in (h ∷ n ∷ ts) = some_text (string_of n)
name_in _ = None

-- the atom at the head
abbrev pub head_in : List Tree → Option (List ℕ)
head_in (h ∷ ts) = atom_of h
head_in [] = None

-- whether a form with this head describes a pipeline: GCC Internals, "Specifying processor pipeline
-- description". It says nothing by parts of its own here, and is kept as it is.
abbrev pub is_of_pipeline : List ℕ → Bool
is_of_pipeline text = bytes_eq text (codes "define_cpu_unit") || bytes_eq text (codes "define_insn_reservation")

unfoldable pub timing_of : List ℕ → Tree → Option Tree
timing_of text t = if is_of_pipeline text then Some t else None

-- a tree that is no list with an atom at its head
abbrev pub headless : List Tree → DraftEntry
headless ts = record { head = codes "-"; name = name_in ts; draft = Err reason.Head; timing = None }

unfoldable pub headed : List Constant → List (List ℕ) → List ℕ → Tree → DraftEntry
headed constants values text t = record {
  head = text;
  name = name_in (items_of t);
  draft = draft_by constants values (head_named text) (items_of t);
  timing = timing_of text t;
}

abbrev pub entry_by : List Constant → List (List ℕ) → Option (List ℕ) → Tree → DraftEntry
entry_by constants values None t = headless (items_of t)
entry_by constants values (Some text) t = headed constants values text t

-- the draft of a tree, where some values have conditions
abbrev pub entry_of : List Constant → List (List ℕ) → Tree → DraftEntry
entry_of constants values t = entry_by constants values (head_in (items_of t)) t
