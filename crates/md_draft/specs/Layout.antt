-- Where the parts of a form stand, its head among the trees: GCC Internals, "Everything about
-- Instruction Patterns" (define_insn), "Defining RTL Sequences for Code Generation"
-- (define_expand), "Defining How to Split Instructions", "RTL to RTL Peephole Optimizers",
-- "Defining Machine-Specific Predicates", "Defining Machine-Specific Constraints" and "Defining
-- Attributes and their Values".
use Rattle.std.specs.Prelude.{ℕ, nat_le, Bool, true, ◌&&◌, List, Option, Some, None, length, slice_get, option_and_then}
use Rattle.std.specs.Option.{is_some}
use Rattle.lisp_read.specs.declared.tree.Tree.{Tree}
use Rattle.lisp_read.specs.Shape.{string_of}
use Rattle.md_draft.specs.declared.head.FormHead.{FormHead}
use Rattle.md_draft.specs.declared.head.FormHead.TheVariants as head
use Rattle.md_draft.specs.declared.layout.Layout.{Layout}

-- no part at all, and so many trees at least and at most
abbrev pub no_parts : ℕ → ℕ → Layout
no_parts few many = record {
  least = few;
  most = many;
  name = None;
  documentation = None;
  patterns = None;
  condition = None;
  output = None;
  split_condition = None;
  sequence = None;
  statements = None;
  attributes = None;
  test = None;
  class = None;
  values = None;
  default = None;
}

-- (define_insn "NAME" [PATTERN] "CONDITION" OUTPUT [ATTRIBUTES])
abbrev pub insn : Layout
insn = record (no_parts 5 6) { name = Some 1; patterns = Some 2; condition = Some 3; output = Some 4; attributes = Some 5 }

-- (define_expand "NAME" [PATTERNS] "CONDITION" STATEMENTS [ATTRIBUTES]), where the last two may
-- lack
abbrev pub expand : Layout
expand = record (no_parts 4 6) { name = Some 1; patterns = Some 2; condition = Some 3; statements = Some 4; attributes = Some 5 }

-- (define_split [PATTERN] "CONDITION" [SEQUENCE] STATEMENTS), and define_peephole2 with a window;
-- the last may lack
abbrev pub rewriting : Layout
rewriting = record (no_parts 4 5) { patterns = Some 1; condition = Some 2; sequence = Some 3; statements = Some 4 }

-- (define_insn_and_split "NAME" [PATTERN] "CONDITION" OUTPUT "SPLIT CONDITION" [SEQUENCE]
-- STATEMENTS [ATTRIBUTES]), where the last two may lack
abbrev pub insn_and_split : Layout
insn_and_split = record (no_parts 7 9) {
  name = Some 1;
  patterns = Some 2;
  condition = Some 3;
  output = Some 4;
  split_condition = Some 5;
  sequence = Some 6;
  statements = Some 7;
  attributes = Some 8;
}

-- (define_predicate "NAME" TEST)
abbrev pub predicate : Layout
predicate = record (no_parts 3 3) { name = Some 1; test = Some 2 }

-- (define_constraint "NAME" "DOCUMENTATION" TEST)
abbrev pub constraint : Layout
constraint = record (no_parts 4 4) { name = Some 1; documentation = Some 2; test = Some 3 }

-- (define_register_constraint "NAME" "CLASS" "DOCUMENTATION")
abbrev pub registers : Layout
registers = record (no_parts 4 4) { name = Some 1; class = Some 2; documentation = Some 3 }

-- (define_attr "NAME" "VALUES" (const_string "DEFAULT"))
abbrev pub attr : Layout
attr = record (no_parts 4 4) { name = Some 1; values = Some 2; default = Some 3 }

-- A definition that was applied is no form: as a form it has wrong parts, whatever their number.
abbrev pub layout_of : FormHead → Layout
layout_of head.Insn = insn
layout_of head.Expand = expand
layout_of head.Split = rewriting
layout_of head.Peephole2 = rewriting
layout_of head.InsnAndSplit = insn_and_split
layout_of head.Predicate = predicate
layout_of head.SpecialPredicate = predicate
layout_of head.Constraint = constraint
layout_of head.MemoryConstraint = constraint
layout_of head.RegisterConstraint = registers
layout_of head.Attr = attr
layout_of _ = no_parts 1 0

-- the part that stands at a place, if there is one
abbrev pub part_at : List Tree → Option ℕ → Option Tree
part_at ts place = option_and_then (λ at. slice_get ts at) place

abbrev pub is_string : Option Tree → Bool
is_string None = true
is_string (Some t) = is_some (string_of t)

abbrev pub has_string : List Tree → Option ℕ → Bool
has_string ts place = is_string (part_at ts place)

-- as many trees as the head takes, and strings for the name and the documentation
abbrev pub is_whole : Layout → List Tree → Bool
is_whole l ts =
    nat_le l.least (length ts) &&
    (nat_le (length ts) l.most && (has_string ts l.name && has_string ts l.documentation))
