-- Entries of a list of forms, by what they say. What a form doesn't have is empty. GCC Internals,
-- "Everything about Instruction Patterns", "Defining RTL Sequences for Code Generation", "Defining
-- How to Split Instructions" and "RTL to RTL Peephole Optimizers".
use Rattle.std.specs.Prelude.{ℕ, List, [], ◌∷◌, Option, Some, None, Ok}
use Rattle.rtx_tree.specs.declared.code.Code.{Code}
use Rattle.rtx_tree.specs.declared.code.Code.TheVariants.{SignExtend}
use Rattle.rtx_tree.specs.declared.code.Mode.{Mode}
use Rattle.rtx_tree.specs.declared.code.Mode.TheVariants.{QI, SI, DI}
use Rattle.rtx_tree.specs.declared.tree.Rtx.{Rtx}
use Rattle.rtx_tree.specs.Patterns.{set_rtx}
use Rattle.rtx_tree.specs.Tree.{node_of}
use Rattle.c_cond.specs.declared.tree.Tree.{Tree}
use Rattle.pred_expr.specs.declared.question.Test.{Test}
use Rattle.pred_expr.specs.Texts.{always, nothing}
use Rattle.md_text.specs.declared.template.Piece.{Piece}
use Rattle.md_text.specs.declared.template.Template.{Template}
use Rattle.md_text.specs.declared.template.Template.TheVariants.{One, Each, Split}
use Rattle.md_forms.specs.md_tables.md_draft.declared.head.FormHead.{FormHead}
use Rattle.md_forms.specs.md_tables.md_draft.declared.head.FormHead.TheVariants as head
use Rattle.md_forms.specs.md_tables.md_draft.Head.{head_name}
use Rattle.md_forms.specs.declared.form.Form.{Form}
use Rattle.md_forms.specs.declared.form.Entry.{Entry}
use Rattle.md_forms.specs.declared.form.OperandConstraint.{OperandConstraint}
use Rattle.plain_forms.specs.Parts.{register}

-- ---- forms

-- a form that says nothing but its head
abbrev pub bare : FormHead → Form
bare h = record {
  head = h;
  patterns = [];
  condition = always;
  split_condition = always;
  statements = nothing;
  sequence = [];
  constraints = [];
  attributes = [];
  template = One [];
  test = None;
  class = None;
  values = [];
  default = [];
}

-- an accepted form, under the text of its head
abbrev pub accepted : Option (List ℕ) → Form → Entry
accepted name f = record { head = head_name f.head; name = name; form = Ok f; timing = None }

abbrev pub named : List ℕ → Form → Entry
named name f = accepted (Some name) f

-- (define_constraint NAME "" TEST)
abbrev pub constraint : List ℕ → Test → Entry
constraint name test = named name (record (bare head.Constraint) { test = Some test })

-- (define_predicate NAME TEST)
abbrev pub predicate : List ℕ → Test → Entry
predicate name test = named name (record (bare head.Predicate) { test = Some test })

-- (define_expand NAME [PATTERNS] "" STATEMENTS)
abbrev pub expand : List ℕ → List Rtx → Tree → Entry
expand name patterns statements =
    named name (record (bare head.Expand) { patterns = patterns; statements = statements })

-- (define_insn NAME [PATTERN] CONDITION TEMPLATE)
abbrev pub insn_where : List ℕ → Rtx → Tree → List OperandConstraint → Template → Entry
insn_where name pattern condition constraints template =
    named name (record (bare head.Insn) { patterns = pattern ∷ []; condition = condition; constraints = constraints; template = template })

abbrev pub insn : List ℕ → Rtx → List OperandConstraint → Template → Entry
insn name pattern constraints template = insn_where name pattern always constraints template

-- (define_insn_and_split NAME [PATTERN] CONDITION "#" SPLIT_CONDITION [SEQUENCE] STATEMENTS)
abbrev pub insn_and_split : List ℕ → Rtx → Tree → List OperandConstraint → Tree → List Rtx → Tree → Entry
insn_and_split name pattern condition constraints split sequence statements =
    named name (record (bare head.InsnAndSplit) {
      patterns = pattern ∷ [];
      condition = condition;
      split_condition = split;
      statements = statements;
      sequence = sequence;
      constraints = constraints;
      template = Split;
    })

-- (define_peephole2 [PATTERNS] CONDITION [SEQUENCE] STATEMENTS)
abbrev pub peephole : List Rtx → Tree → List Rtx → Tree → Entry
peephole patterns condition sequence statements =
    accepted None (record (bare head.Peephole2) { patterns = patterns; condition = condition; sequence = sequence; statements = statements })

-- ---- instructions that set register 0

-- (set (match_operand:MODE 0 "register_operand") SOURCE)
abbrev pub sets : Mode → Rtx → Rtx
sets m source = set_rtx (register 0 m) source

-- an operation on operand 1
abbrev pub of_one : Code → Mode → Rtx → Rtx
of_one c m a = node_of c m (a ∷ [])

-- an operation on operands 1 and 2
abbrev pub of_two : Code → Mode → Rtx → Rtx → Rtx
of_two c m a b = node_of c m (a ∷ b ∷ [])

-- the value of an operation in SI, extended to DI
abbrev pub extends : Rtx → Rtx
extends x = of_one SignExtend DI x

-- an instruction that sets register 0, with one text for all alternatives, or a text for each
abbrev pub set_insn : List ℕ → Mode → Rtx → List OperandConstraint → List Piece → Entry
set_insn name m source constraints line = insn name (sets m source) constraints (One line)

abbrev pub set_insn_each : List ℕ → Mode → Rtx → List OperandConstraint → List Piece → List Piece →
    Entry
set_insn_each name m source constraints first second =
    insn name (sets m source) constraints (Each (first ∷ second ∷ []))
