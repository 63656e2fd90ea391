-- The members of constraints that admit nothing of what is tried: GCC Internals, "Simple
-- Constraints" and "Multiple Alternative Constraints". What a member admits, md_constr says.
use Rattle.std.specs.Prelude.{ℕ, Bool, false, not, ℤ, List, [], ◌∷◌, Option, filter, flat_map, map, codes, slice_get}
use Rattle.std.specs.Fmt.{decimal}
use Rattle.std.specs.List.{list_any}
use Rattle.std.specs.Option.{option_map_or}
use Rattle.rtx_tree.specs.Operands.{operand_at}
use Rattle.md_text.specs.declared.constraint.Alternative.{Alternative}
use Rattle.md_text.specs.declared.constraint.Letter.{Letter}
use Rattle.md_text.specs.declared.constraint.Letter.TheVariants as letter
use Rattle.md_text.specs.declared.constraint.Member.{Member}
use Rattle.md_text.specs.declared.constraint.Member.TheVariants as member
use Rattle.md_desc.specs.md_forms.declared.form.Entry.{Entry}
use Rattle.md_desc.specs.md_forms.declared.form.Form.{Form}
use Rattle.md_desc.specs.md_forms.declared.form.OperandConstraint.{OperandConstraint}
use Rattle.md_desc.specs.md_attr.Alternatives.{form_at}
use Rattle.md_desc.specs.md_pred.Holds.{holds}
use Rattle.md_constr.specs.Admits.{name_admits}
use Rattle.md_constr.specs.Fits.{Named, member_admits}
use Rattle.lint_tried.specs.declared.instance.Instance.{Instance}
use Rattle.lint_tried.specs.Tried.{instances_tried}
use Rattle.lint_idle.specs.declared.idle.Idle.{Idle}

-- ---- a member as it is written

abbrev pub letter_text : Letter → List ℕ
letter_text letter.Register = codes "r"
letter_text letter.Memory = codes "m"
letter_text letter.Immediate = codes "i"
letter_text letter.Constant = codes "n"
letter_text letter.Symbol = codes "s"
letter_text letter.General = codes "g"
letter_text letter.Anything = codes "X"
letter_text letter.Address = codes "p"

abbrev pub text_of : Member → List ℕ
text_of (member.Letter l) = letter_text l
text_of (member.Same n) = decimal n
text_of (member.Defined name) = name

-- ---- whether it admits something

-- the operands that the constraints of a description admit, by their names
abbrev pub named_in : List Entry → Named
named_in forms name x = name_admits forms (holds forms) name x

-- a member of an operand's constraint admits it in an instance
abbrev pub admits_in : List Entry → ℕ → Member → Instance → Bool
admits_in forms operand m i =
    option_map_or (λ x. member_admits (named_in forms) i.operands x m) (operand_at i.operands operand) false

abbrev pub is_idle : List Entry → List Instance → ℕ → Member → Bool
is_idle forms tried operand m = not (list_any (admits_in forms operand m) tried)

-- ---- the idle members

abbrev pub idle_with : ℕ → Member → Idle
idle_with operand m = record { operand = operand; member = text_of m }

abbrev pub idle_among : List Entry → List Instance → ℕ → List Member → List Idle
idle_among forms tried operand ms = map (idle_with operand) (filter (is_idle forms tried operand) ms)

-- those of an operand's constraint in an alternative
abbrev pub idle_in : List Entry → List Instance → ℕ → OperandConstraint → List Idle
idle_in forms tried alternative k = option_map_or (λ (a : Alternative). idle_among forms tried k.operand a.members) (slice_get k.constraint alternative) []

-- where nothing is tried nothing is said
abbrev pub idle_by : List Entry → ℕ → Form → List Instance → List Idle
idle_by forms alternative f [] = []
idle_by forms alternative f (i ∷ more) = flat_map (idle_in forms (i ∷ more) alternative) f.constraints

-- the members of the constraints of an alternative that admit no operand of the instances that are
-- tried of it, by the numbers in the tests of the description
abbrev pub idle_of : List Entry → List ℤ → ℕ → ℕ → List Idle
idle_of forms tested form alternative =
    option_map_or (λ f. idle_by forms alternative f (instances_tried forms tested form alternative)) (form_at forms form) []
