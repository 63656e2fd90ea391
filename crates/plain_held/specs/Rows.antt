-- What the rows of the code's table of forms stand for: GCC Internals, "RTL Template", "Machine
-- Descriptions" and the sections on each form.
use Rattle.std.specs.Prelude.{◌≡◌, ℕ, ◌-◌, ◌==◌, Bool, true, ◌&&◌, List, [], ◌∷◌, ◌++◌, length, take, drop, map, Option, Some, None, option_map, unwrap_or, Ok, codes}
use Rattle.rtx_tree.specs.declared.code.Code.{Code}
use Rattle.rtx_tree.specs.declared.code.Code.TheVariants.{ConstInt, SymbolRef}
use Rattle.rtx_tree.specs.declared.code.Mode.TheVariants.{Void}
use Rattle.rtx_tree.specs.declared.tree.Rtx.{Rtx}
use Rattle.rtx_tree.specs.Tree.{tree_of}
use Rattle.c_cond.specs.c_words.declared.head.CondHead.{CondHead}
use Rattle.c_cond.specs.c_words.declared.head.CondHead.TheVariants as head
use Rattle.c_cond.specs.c_words.declared.head.Unary.TheVariants as unary
use Rattle.c_cond.specs.declared.tree.Tree.{Tree}
use Rattle.c_cond.specs.Tree.{grown, tree_of as tree_of_heads}
use Rattle.pred_expr.specs.declared.question.Question.TheVariants as question
use Rattle.pred_expr.specs.declared.question.Test.{Test}
use Rattle.pred_expr.specs.Test.{alone, test_with}
use Rattle.md_text.specs.declared.constraint.Alternative.{Alternative}
use Rattle.md_text.specs.declared.constraint.Direction.{Direction}
use Rattle.md_text.specs.declared.template.Reading.{Reading}
use Rattle.md_text.specs.declared.template.Reading.TheVariants as reading
use Rattle.md_text.specs.declared.template.Template.{Template}
use Rattle.md_text.specs.declared.template.Template.TheVariants.{One}
use Rattle.md_text.specs.Constraint.{constraint_of}
use Rattle.md_text.specs.Template.{template_of}
use Rattle.md_forms.specs.md_tables.md_draft.Head.{head_name}
use Rattle.md_forms.specs.declared.form.Form.{Form}
use Rattle.md_forms.specs.declared.form.Entry.{Entry}
use Rattle.md_forms.specs.declared.form.OperandConstraint.{OperandConstraint}
use Rattle.plain_held.specs.declared.row.Node.{Node}
use Rattle.plain_held.specs.declared.row.Word.{Word}
use Rattle.plain_held.specs.declared.row.Word.TheVariants as word
use Rattle.plain_held.specs.declared.row.Constrained.{Constrained}
use Rattle.plain_held.specs.declared.row.Asked.{Asked}
use Rattle.plain_held.specs.declared.row.Asked.TheVariants as asked
use Rattle.plain_held.specs.declared.row.Row.{Row}

-- ---- patterns

-- an expression behind some trees, of which the last are its parts
abbrev pub grown_by : List Rtx → Node → List Rtx
grown_by trees node =
    let whole = length trees - node.parts in
    take whole trees ++
    tree_of (record { code = node.code; mode = node.mode; number = node.number; name = node.name.now }) (drop whole trees) ∷ []

-- expressions behind some trees
abbrev pub grown_trees : List Rtx → List Node → List Rtx
grown_trees trees [] = trees
grown_trees trees (node ∷ nodes) = grown_trees (grown_by trees node) nodes

-- the trees that a row of expressions is, each behind its parts
abbrev pub trees_of : List Node → List Rtx
trees_of nodes = grown_trees [] nodes

-- ---- conditions and statements

abbrev pub head_of : Word → CondHead
head_of (word.Number n) = head.Number n
head_of word.Ival = head.Ival
head_of (word.Operand k) = head.Operand k
head_of (word.Mode m) = head.Mode m
head_of word.Not = head.Unary unary.Not
head_of word.Negative = head.Unary unary.Negative
head_of (word.Binary o) = head.Binary o
head_of word.Choose = head.Choose
head_of (word.Call c) = head.Call c
head_of (word.Predicate name) = head.Predicate name.now
head_of (word.Assign k) = head.Assign k
head_of word.If = head.If
head_of word.Nothing = head.Nothing
head_of word.Then = head.Then

abbrev pub heads_in : List Word → List CondHead
heads_in words = map head_of words

-- the condition, or the statements, that words are
abbrev pub condition_of : List Word → Tree
condition_of words = tree_of_heads (heads_in words)

-- words are those of one tree
abbrev pub is_whole : List Word → Bool
is_whole words = length (grown [] (heads_in words)) == 1

-- ---- constraints

-- the names of the constraints that the plain forms define
abbrev pub names : List (List ℕ)
names = codes "I" ∷ codes "J" ∷ codes "K" ∷ codes "L" ∷ []

-- the constraint that a text is; none where it is not one
abbrev pub constraint_in : List (List ℕ) → List ℕ → List Alternative
constraint_in names text = unwrap_or (constraint_of names text) []

abbrev pub constrained_of : List (List ℕ) → Constrained → OperandConstraint
constrained_of names c =
    record { operand = c.operand; constraint = constraint_in names c.text.now }

-- what an alternative is marked with
pub record Marks : Type 0 where
  pub direction : Direction
  pub early : Bool
  pub slight : ℕ
  pub severe : ℕ

abbrev pub marks_of : Alternative → Marks
marks_of a = record { direction = a.direction; early = a.early; slight = a.slight; severe = a.severe }

-- ---- templates

abbrev pub template_read : Reading → Template
template_read (reading.Template t) = t
template_read _ = One []

-- the template that a text is; the empty one where it is none
abbrev pub template_in : List ℕ → Template
template_in text = template_read (template_of text)

-- ---- tests

-- (match_code CODE), (match_test CONDITION), (match_operand 0 PREDICATE)
abbrev pub code_test : Code → Test
code_test c = alone (question.Codes (c ∷ []))

abbrev pub condition_test : List Word → Test
condition_test words = alone (question.Condition (condition_of words))

abbrev pub predicate_test : List ℕ → Test
predicate_test name = alone (question.Predicate name Void)

-- (and A B), (ior A B)
abbrev pub both : Test → Test → Test
both a b = test_with question.And (a ∷ b ∷ [])

abbrev pub either : Test → Test → Test
either a b = test_with question.Ior (a ∷ b ∷ [])

-- (and (match_code "const_int") (match_test CONDITION))
abbrev pub constant_test : List Word → Test
constant_test words = both (code_test ConstInt) (condition_test words)

abbrev pub register_test : Test
register_test = predicate_test (codes "register_operand")

abbrev pub test_of : Asked → Option Test
test_of asked.Nothing = None
test_of (asked.Constant words) = Some (constant_test words.now)
test_of (asked.RegisterOr words) = Some (either register_test (constant_test words.now))
test_of asked.RegisterOrConstant =
    Some (either register_test (predicate_test (codes "const_int_operand")))
test_of asked.RegisterOrSymbol = Some (either register_test (code_test SymbolRef))

-- ---- forms

abbrev pub form_of : Row → Form
form_of row = record {
  head = row.head;
  patterns = trees_of row.patterns.now;
  condition = condition_of row.condition.now;
  split_condition = condition_of row.split_condition.now;
  statements = condition_of row.statements.now;
  sequence = trees_of row.sequence.now;
  constraints = map (constrained_of names) row.constraints.now;
  attributes = [];
  template = template_in row.template.now;
  test = test_of row.test;
  class = None;
  values = [];
  default = [];
}

-- a form is that of a row in what takes no memory to compare
abbrev pub IsAlike : Form → Row → Type 0
IsAlike f row =
    (f.head ≡ row.head) × (f.attributes ≡ []) × (f.class ≡ None) × (f.values ≡ []) × (f.default ≡ []) ×
    (f.condition ≡ condition_of row.condition.now) × (f.split_condition ≡ condition_of row.split_condition.now) ×
    (f.statements ≡ condition_of row.statements.now) × (f.test ≡ test_of row.test)

-- an accepted form, under the text of its head
abbrev pub entry_of : Row → Entry
entry_of row = record {
  head = head_name row.head;
  name = option_map (λ name. name.now) row.name;
  form = Ok (form_of row);
  timing = None;
}

-- ---- rows

abbrev pub is_whole_test : Asked → Bool
is_whole_test (asked.Constant words) = is_whole words.now
is_whole_test (asked.RegisterOr words) = is_whole words.now
is_whole_test _ = true

-- the conditions and the statements of a row are trees
abbrev pub is_whole_row : Row → Bool
is_whole_row row =
    is_whole row.condition.now && (is_whole row.split_condition.now && (is_whole row.statements.now && is_whole_test row.test))
