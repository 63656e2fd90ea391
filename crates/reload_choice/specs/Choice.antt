-- What an alternative costs, and which is taken: GCC Internals, "Multiple Alternative Constraints"
-- and "Constraint Modifier Characters" (`?` and `!`).
use Rattle.std.specs.Prelude.{◌≡◌, ℕ, ◌+◌, ◌*◌, ◌<◌, ◌≤◌, Bool, true, false, List, [], Option, Some, None, Result, Ok, Err, slice_get, if◌then◌else◌}
use Rattle.std.specs.List.{count_by, sum_by}
use Rattle.std.specs.Option.{option_map_or}
use Rattle.md_text.specs.declared.constraint.Alternative.{Alternative}
use Rattle.md_forms.specs.declared.form.OperandConstraint.{OperandConstraint}
use Rattle.md_forms.specs.declared.form.Form.{Form}
use Rattle.md_forms.specs.declared.form.Entry.{Entry}
use Rattle.md_pattern.specs.declared.reason.Reason.{Reason}
use Rattle.reload_fit.specs.md_desc.md_attr.Alternatives.{alternatives_of}
use Rattle.reload_fit.specs.md_desc.md_attr.Values.{is_enabled}
use Rattle.reload_operands.specs.declared.operand.Operand.{Operand}
use Rattle.reload_moves.specs.declared.fitting.Fitting.{Fitting}
use Rattle.reload_moves.specs.declared.part.Part.{Part}
use Rattle.reload_fit.specs.Fitting.{Asks, asks_by, constraints_of, fittings_of}
use Rattle.reload_moves.specs.Moved.{parts_of}
use Rattle.reload_moves.specs.declared.ask.Ask.{Ask}
use Rattle.reload_choice.specs.declared.given.Given.{Given}
use Rattle.reload_choice.specs.declared.given.Plan.{Plan}
use Rattle.reload_moves.specs.declared.moves.Move.{Move}
use Rattle.reload_moves.specs.declared.moves.Move.TheVariants.{Far, Base}
use Rattle.reload_moves.specs.Registers as registers
use Rattle.reload_moves.specs.Moves.{moves_before, moves_after}
use Rattle.reload_choice.specs.Movable.{is_reachable, formed_of}

-- ---- cost

-- the moves of which each costs 1 beside what is moved
abbrev pub is_base_move : Move → Bool
is_base_move (Base into place) = true
is_base_move (Far into offset) = true
is_base_move _ = false

-- one for each `?`, 100 for each `!`
abbrev pub marks_of : Alternative → ℕ
marks_of a = a.slight + 100 * a.severe

abbrev pub marks_at : ℕ → OperandConstraint → ℕ
marks_at alternative k = option_map_or marks_of (slice_get k.constraint alternative) 0

abbrev pub marks : List OperandConstraint → ℕ → ℕ
marks constraints alternative = sum_by (marks_at alternative) constraints

abbrev pub moved_count : List Part → ℕ
moved_count parts = count_by (λ p. p.is_moved) parts

abbrev pub base_count : List Move → ℕ
base_count moves = count_by is_base_move moves

-- the number of operands moved, and of bases and far bases before the instruction and after it
abbrev pub moves_cost : List Ask → List Part → ℕ
moves_cost asks parts =
    moved_count parts + (base_count (moves_before asks parts) + base_count (moves_after asks parts))

abbrev pub cost_of : List OperandConstraint → ℕ → List Part → ℕ
cost_of constraints alternative parts =
    moves_cost (registers.asks_of parts) parts + marks constraints alternative

-- ---- the plan of an alternative

abbrev pub plan_with : List OperandConstraint → ℕ → List Part → Plan
plan_with constraints alternative parts = record { cost = cost_of constraints alternative parts; parts = parts }

abbrev pub plan_if : Bool → List OperandConstraint → ℕ → List Part → Option Plan
plan_if reachable constraints alternative parts =
    if reachable then Some (plan_with constraints alternative parts) else None

abbrev pub plan_for : Asks → List OperandConstraint → List Operand → Given → List Bool → ℕ →
    List Fitting → Option Plan
plan_for asks constraints operands given formed alternative fits =
    plan_if (is_reachable asks operands given fits formed (parts_of fits)) constraints alternative (parts_of fits)

abbrev pub plan_by : Asks → List OperandConstraint → List Operand → Given → List Bool → ℕ →
    Option Plan
plan_by asks constraints operands given formed alternative =
    plan_for asks constraints operands given formed alternative (fittings_of asks operands)

abbrev pub plan_among : List Entry → ℕ → List OperandConstraint → Given → List Bool → ℕ →
    Option Plan
plan_among forms form constraints given formed alternative =
    if is_enabled forms form alternative
    then plan_by (asks_by forms form constraints alternative) constraints given.operands given formed alternative
    else None

-- an alternative that isn't enabled or isn't reachable has none
abbrev pub plan_at : List Entry → ℕ → Given → ℕ → Option Plan
plan_at forms form given = plan_among forms form (constraints_of forms form) given (formed_of given)

-- ---- the best

-- the plan of an alternative than which no other costs less, and none with a lower number as little
pub record IsBest (plans : ℕ → Option Plan) (count : ℕ) (alternative : ℕ) (plan : Plan) : Type 0 where
  pub below : alternative < count
  pub here : plans alternative ≡ Some plan
  pub least : (j : ℕ) (other : Plan) → j < count → plans j ≡ Some other → plan.cost ≤ other.cost
  pub lowest : (j : ℕ) (other : Plan) → j < alternative → plans j ≡ Some other →
      plan.cost < other.cost

-- no alternative has a plan
abbrev pub IsUnreachable : (ℕ → Option Plan) → ℕ → Type 0
IsUnreachable plans count = (alternative : ℕ) → alternative < count → plans alternative ≡ None

-- the plan of the best alternative of a form
abbrev pub IsChosen : List Entry → ℕ → Given → Plan → Type 0
IsChosen forms form given plan =
    (alternative : ℕ) ×
    IsBest (plan_at forms form given) (alternatives_of forms form) alternative plan

-- no alternative of a form has a plan
abbrev pub NoneReaches : List Entry → ℕ → Given → Type 0
NoneReaches forms form given = IsUnreachable (plan_at forms form given) (alternatives_of forms form)

-- ---- in the code

abbrev pub constraints_by : Result Form Reason → List OperandConstraint
constraints_by (Ok f) = f.constraints
constraints_by (Err r) = []
