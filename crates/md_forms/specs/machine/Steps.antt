-- Steps of the code, for the contracts of private functions alone.
use Rattle.std.specs.Prelude.{◌≡◌, ℕ, Bool, ◌&&◌, ◌||◌, List, [], ◌∷◌, Option, Result}
use Rattle.std.specs.BTreeSet as set
use Rattle.std.specs.BTreeSet.{BTreeSet}
use Rattle.std.specs.List.{find}
use Rattle.std.specs.Ordering.{nat_cmp}
use Rattle.md_tables.specs.md_pattern.declared.reason.Reason.{Reason}
use Rattle.md_tables.specs.md_pattern.declared.reason.Reason.TheVariants as reason
use Rattle.md_forms.specs.declared.form.OperandConstraint.{OperandConstraint}
use Rattle.md_tables.specs.md_draft.declared.draft.Draft.{Draft}
use Rattle.md_tables.specs.declared.tables.Tables.{Tables}
use Rattle.md_forms.specs.declared.checks.Numbers.{Numbers}
use Rattle.md_forms.specs.Checks.{has, matched, all_operands, constraints_of, has_reason, reason_of, unless}

-- the numbers of a form's operands, which the code counts once
abbrev pub AreNumbers : Numbers → Draft → Type 0
AreNumbers numbers d = (numbers.matched ≡ matched d) × (numbers.all ≡ all_operands d)

-- an operand once more: one that is matched, or where statements may set it one of those that are
-- assigned
abbrev pub dup_in : Bool → List ℕ → BTreeSet ℕ → ℕ → Bool
dup_in settable numbers assigned n = has numbers n || (settable && set.contains nat_cmp assigned n)

-- the smallest reason behind those of predicates, where the constraints are known
abbrev pub reason_behind : Tables → Draft → Option Reason
reason_behind tables d = find (has_reason tables d) (reason.Constraint ∷ reason.Attribute ∷ reason.Operands ∷ reason.Template ∷ [])

-- the constraints, or the smallest reason
unfoldable pub checked : Tables → Draft → Result (List OperandConstraint) Reason
checked tables d = unless (reason_of tables d) (constraints_of tables d)
