-- What is asked of a form whose own text is in order: that its predicates, constraints and
-- attributes are known, its operands numbered right, and its template inside. GCC Internals, "RTL
-- Template", "Multiple Alternative Constraints", "Assigning Attribute Values to Insns" and "Output
-- Templates and Operand Substitution".
use Rattle.std.specs.Prelude.{ℕ, ◌==◌, nat_le, Bool, true, false, not, ◌&&◌, ◌||◌, List, [], ◌∷◌, ◌++◌, Option, Some, None, Result, Ok, Err, if◌then◌else◌, length, option_map, option_and_then}
use Rattle.std.specs.Option.{unwrap_or}
use Rattle.std.specs.List.{find, flat_map, list_all, list_any}
use Rattle.md_tables.specs.c_words.declared.head.CondHead as c
use Rattle.md_tables.specs.c_cond.Tree.{heads_of}
use Rattle.md_tables.specs.md_text.declared.constraint.Member.{Member}
use Rattle.md_tables.specs.md_text.declared.constraint.Member.TheVariants as member
use Rattle.md_tables.specs.md_text.declared.constraint.Alternative.{Alternative}
use Rattle.md_tables.specs.md_text.declared.template.Template.{Template}
use Rattle.md_tables.specs.md_text.declared.template.Template.TheVariants as template
use Rattle.md_tables.specs.md_text.Lists as lists
use Rattle.md_tables.specs.md_text.Constraint as text
use Rattle.md_tables.specs.md_pattern.declared.reason.Reason.{Reason}
use Rattle.md_tables.specs.md_pattern.declared.reason.Reason.TheVariants as reason
use Rattle.md_tables.specs.md_pattern.declared.operand.OperandText.{OperandText}
use Rattle.md_tables.specs.md_draft.declared.head.FormHead.{FormHead}
use Rattle.md_tables.specs.md_draft.declared.head.FormHead.TheVariants as head
use Rattle.md_tables.specs.md_draft.declared.draft.Attribute.{Attribute}
use Rattle.md_tables.specs.md_draft.declared.draft.Output.{Output}
use Rattle.md_tables.specs.md_draft.declared.draft.Output.TheVariants as output
use Rattle.md_forms.specs.declared.form.Form.{Form}
use Rattle.md_forms.specs.declared.form.OperandConstraint.{OperandConstraint}
use Rattle.md_tables.specs.md_draft.declared.draft.Draft.{Draft}
use Rattle.md_tables.specs.declared.tables.AttributeDraft.{AttributeDraft}
use Rattle.md_tables.specs.declared.tables.ConstraintDraft.{ConstraintDraft}
use Rattle.md_tables.specs.declared.tables.Tables.{Tables}
use Rattle.md_tables.specs.Names.{predicates_named}
use Rattle.md_forms.specs.Names.{operands_in, dups_in, is_assigned}
use Rattle.md_tables.specs.Predicates.{is_known}
use Rattle.md_tables.specs.Tables.{is_constraint, is_among, attribute_named}

-- ---- predicates

unfoldable pub predicates_known : Tables → Draft → Bool
predicates_known tables d =
    list_all (is_known tables.predicates tables.accepted) (predicates_named d)

-- ---- operands

-- the numbers of the operands that the form matches, or, for an expander, that it is made of
unfoldable pub matched : Draft → List ℕ
matched d = flat_map operands_in d.matched.patterns.trees

-- the numbers of the operands of the form, with those of its new sequence
unfoldable pub all_operands : Draft → List ℕ
all_operands d = matched d ++ flat_map operands_in d.replacement.sequence.trees

abbrev pub has : List ℕ → ℕ → Bool
has numbers n = list_any (λ m. m == n) numbers

abbrev pub are_distinct : List ℕ → Bool
are_distinct [] = true
are_distinct (n ∷ ns) = not (has ns n) && are_distinct ns

abbrev pub is_expander : FormHead → Bool
is_expander head.Expand = true
is_expander _ = false

-- an operand once more: one that is matched, or where statements may set it one that they set
abbrev pub dup_by : Bool → List ℕ → List c.CondHead → ℕ → Bool
dup_by settable numbers statements n =
    has numbers n || (settable && list_any (is_assigned n) statements)

-- statements may set an operand of a new sequence, and of the pattern of an expander
unfoldable pub dups_by : List ℕ → Draft → Bool
dups_by numbers d =
    list_all (dup_by (is_expander d.head) numbers (heads_of d.replacement.statements)) (flat_map dups_in d.matched.patterns.trees)
    && list_all (dup_by true numbers (heads_of d.replacement.statements)) (flat_map dups_in d.replacement.sequence.trees)

-- ---- constraints

abbrev pub constraint_in : List (List ℕ) → OperandText → Option OperandConstraint
constraint_in names t = option_map (λ k. record { operand = t.operand; constraint = k }) (text.constraint_of names t.text)

-- the constraints of a form; none where one of them has something unknown in it
unfoldable pub constraints_in : List (List ℕ) → Draft → Option (List OperandConstraint)
constraints_in names d =
    option_and_then (λ ks. option_map (λ more. ks ++ more) (lists.each (constraint_in names) d.replacement.sequence.texts))
    (lists.each (constraint_in names) d.matched.patterns.texts)

-- a digit names an operand, and a name a constraint that is accepted
abbrev pub member_stands : List ℕ → List ConstraintDraft → Member → Bool
member_stands numbers known (member.Letter l) = true
member_stands numbers known (member.Same n) = has numbers n
member_stands numbers known (member.Defined name) = is_constraint known name

abbrev pub alternative_stands : List ℕ → List ConstraintDraft → Alternative → Bool
alternative_stands numbers known a = list_all (member_stands numbers known) a.members

abbrev pub constraint_stands : List ℕ → List ConstraintDraft → OperandConstraint → Bool
constraint_stands numbers known k = list_all (alternative_stands numbers known) k.constraint

-- how many alternatives a form has: as many as the first list of them, or one
abbrev pub alternatives : List OperandConstraint → ℕ
alternatives [] = 1
alternatives (k ∷ ks) = if length k.constraint == 0 then alternatives ks else length k.constraint

-- an empty constraint is no list
abbrev pub has_length : ℕ → OperandConstraint → Bool
has_length n k = length k.constraint == 0 || length k.constraint == n

unfoldable pub constraints_stand : List ℕ → List ConstraintDraft → List OperandConstraint → Bool
constraints_stand numbers known ks =
    list_all (constraint_stands numbers known) ks && list_all (has_length (alternatives ks)) ks

-- ---- attributes

-- one of the attribute's values, or a star for the default
abbrev pub is_value : AttributeDraft → List ℕ → Bool
is_value a value = is_among ((42 ∷ []) ∷ a.values) value

abbrev pub values_stand : ℕ → Attribute → Option AttributeDraft → Bool
values_stand n given None = false
values_stand n given (Some a) =
    a.accepted &&
    (list_all (is_value a) given.values && (length given.values == 1 || length given.values == n))

-- one value, or one for each of so many alternatives
abbrev pub attribute_stands : List AttributeDraft → ℕ → Attribute → Bool
attribute_stands known n given = values_stand n given (attribute_named known given.name)

abbrev pub is_attr : FormHead → Bool
is_attr head.Attr = true
is_attr _ = false

-- an attribute's default is one of its values
abbrev pub default_stands : Draft → Bool
default_stands d = not (is_attr d.head) || is_among d.defined.values d.defined.default

unfoldable pub attributes_stand : List AttributeDraft → Draft → ℕ → Bool
attributes_stand known d n =
    default_stands d && list_all (attribute_stands known n) d.printed.attributes

-- ---- numbers

-- 30 operands and 30 alternatives at most, and no operand twice
abbrev pub numbers_stand : List ℕ → ℕ → Bool
numbers_stand numbers n = nat_le (length numbers) 30 && (nat_le n 30 && are_distinct numbers)

unfoldable pub operands_stand : Draft → ℕ → Bool
operands_stand d n = numbers_stand (all_operands d) n && dups_by (matched d) d

-- ---- outputs

-- a text for each alternative
abbrev pub template_stands : ℕ → Template → Bool
template_stands n template.Split = true
template_stands n (template.One line) = true
template_stands n (template.Each lines) = length lines == n

abbrev pub output_stands : ℕ → Output → Bool
output_stands n (output.Template t) = template_stands n t
output_stands n output.Outside = false

abbrev pub template_of : Output → Template
template_of (output.Template t) = t
template_of _ = template.One []

-- ---- the reasons of a form whose own text is in order

-- the form's constraints, none where they aren't known
abbrev pub constraints_of : Tables → Draft → List OperandConstraint
constraints_of tables d = unwrap_or (constraints_in tables.constraint_names d) []

abbrev pub stand_where_known : Tables → Draft → Option (List OperandConstraint) → Bool
stand_where_known tables d None = false
stand_where_known tables d (Some ks) = constraints_stand (matched d) tables.constraints ks

-- the form's constraints are known, and stand
abbrev pub constraints_known : Tables → Draft → Bool
constraints_known tables d = stand_where_known tables d (constraints_in tables.constraint_names d)

abbrev pub alternatives_of : Tables → Draft → ℕ
alternatives_of tables d = alternatives (constraints_of tables d)

-- Whether the form has a reason. Those of its own text are looked at before.
abbrev pub has_reason : Tables → Draft → Reason → Bool
has_reason tables d reason.Predicate = not (predicates_known tables d)
has_reason tables d reason.Constraint = not (constraints_known tables d)
has_reason tables d reason.Attribute =
    not (attributes_stand tables.attributes d (alternatives_of tables d))
has_reason tables d reason.Operands = not (operands_stand d (alternatives_of tables d))
has_reason tables d reason.Template =
    not (output_stands (alternatives_of tables d) d.printed.output)
has_reason tables d _ = false

-- the reasons of a form whose own text is in order, in the order of their numbers
abbrev pub later_reasons : List Reason
later_reasons =
    reason.Predicate ∷ reason.Constraint ∷ reason.Attribute ∷ reason.Operands ∷ reason.Template ∷ []

-- the smallest that it has
abbrev pub reason_of : Tables → Draft → Option Reason
reason_of tables d = find (has_reason tables d) later_reasons

-- ---- the form

abbrev pub form_with : Draft → List OperandConstraint → Form
form_with d ks = record {
  head = d.head;
  patterns = d.matched.patterns.trees;
  condition = d.matched.condition;
  split_condition = d.replacement.split_condition;
  statements = d.replacement.statements;
  sequence = d.replacement.sequence.trees;
  constraints = ks;
  attributes = d.printed.attributes;
  template = template_of d.printed.output;
  test = d.defined.test;
  class = d.defined.class;
  values = d.defined.values;
  default = d.defined.default;
}

abbrev pub unless : {A : Type 0} → Option Reason → A → Result A Reason
unless None x = Ok x
unless (Some r) x = Err r

-- a form, or the smallest reason that applies to a draft
unfoldable pub form_of : Tables → Draft → Result Form Reason
form_of tables d = unless (reason_of tables d) (form_with d (constraints_of tables d))
