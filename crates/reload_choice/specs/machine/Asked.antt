-- What an alternative asks and gives, as the code holds it.
use Rattle.std.specs.Prelude.{ℕ, Bool, ◌&&◌, List, Option}
use Rattle.md_forms.specs.declared.form.OperandConstraint.{OperandConstraint}
use Rattle.md_forms.specs.declared.form.Entry.{Entry}
use Rattle.reload_moves.specs.declared.fitting.Fitting.{Fitting}
use Rattle.reload_moves.specs.declared.part.Part.{Part}
use Rattle.reload_fit.specs.declared.asked.Asked.{Asked}
use Rattle.reload_fit.specs.Fitting.{Asks, asks_by}
use Rattle.reload_choice.specs.declared.given.Given.{Given}
use Rattle.reload_choice.specs.declared.given.Plan.{Plan}
use Rattle.reload_choice.specs.Movable.{is_suited, stays_formed, is_reachable}
use Rattle.reload_choice.specs.Choice.{plan_if, plan_by, constraints_by}

abbrev pub asks_in : Asked → Asks
asks_in a = asks_by a.desc.now a.form a.constraints.now a.alternative

-- an alternative is reachable, if four registers suffice
abbrev pub is_reached : Asked → Given → List Fitting → List Bool → List Part → Bool
is_reached a given fits formed parts =
    is_suited (asks_in a) a.operands.now given fits formed parts && stays_formed given parts

-- the plan by what is moved, where it is reachable
abbrev pub planned_in : Asked → Given → List Fitting → List Bool → List Part → Option Plan
planned_in a given fits formed parts =
    plan_if (is_reachable (asks_in a) a.operands.now given fits formed parts) a.constraints.now a.alternative parts

abbrev pub plan_in : Asked → Given → List Bool → Option Plan
plan_in a given formed =
    plan_by (asks_in a) a.constraints.now a.operands.now given formed a.alternative

-- the plan of an alternative of a form, over the constraints that were looked up
abbrev pub plan_of : List Entry → ℕ → List OperandConstraint → Given → List Bool → ℕ → Option Plan
plan_of forms form constraints given formed alternative =
    plan_by (asks_by forms form constraints alternative) constraints given.operands given formed alternative

-- the constraints of a form; one that is set aside has none
abbrev pub constraints_in : Entry → List OperandConstraint
constraints_in e = constraints_by e.form
