-- The answers that are known of a table's questions. These definitions serve the contracts of
-- private functions alone.
use Rattle.std.specs.Prelude.{◌≡◌, ℕ, ◌≤◌, Bool, not, ◌&&◌, ◌||◌, List, Option, IfSome, None, slice_index_or, if◌then◌else◌}
use Rattle.rtx_tree.specs.declared.code.Mode.{Mode}
use Rattle.rtx_tree.specs.declared.code.Mode.TheVariants as mode
use Rattle.rtx_tree.specs.declared.tree.Rtx.{Rtx}
use Rattle.pred_rows.specs.declared.node.Node.{Node}
use Rattle.md_pred.specs.declared.answers.Answers.{Answers}
use Rattle.md_pred.specs.declared.definitions.Definition.{Definition}
use Rattle.md_pred.specs.declared.table.PredTable.{PredTable}
use Rattle.md_pred.specs.machine.Table.{kept_holds}
use Rattle.md_pred.specs.machine.Steps.{asked_within, at_holds, node_holds, part_holds}

abbrev pub answer_in : Answers → Mode → Bool
answer_in a mode.Void = a.void
answer_in a mode.QI = a.qi
answer_in a mode.HI = a.hi
answer_in a mode.SI = a.si
answer_in a mode.DI = a.di

-- what is asked so often at most, in each mode
abbrev pub Asked : Type 0
Asked = ℕ → Mode → Bool

-- the answers to a question, where definitions may be asked for as often as they say, or more often
abbrev pub AreAnswers : Asked → Answers → Type 0
AreAnswers asked a =
    (rounds : ℕ) (m : Mode) → a.rounds ≤ rounds → asked rounds m ≡ answer_in a m

-- the test whose root stands at a place
abbrev pub at_place : PredTable → Rtx → ℕ → Asked
at_place table x place rounds m =
    at_holds table x (record { place = place; mode = m; rounds = rounds })

-- a part of the question at a place
abbrev pub part_at : PredTable → Rtx → ℕ → ℕ → Asked
part_at table x at place rounds m =
    part_holds table x (record { place = at; mode = m; rounds = rounds }) place

-- two parts of the question at a place, of which one is enough
abbrev pub either_at : PredTable → Rtx → ℕ → ℕ → ℕ → Asked
either_at table x at a b rounds m =
    part_at table x at a rounds m || part_at table x at b rounds m

-- two parts of the question at a place, of which both are needed
abbrev pub both_at : PredTable → Rtx → ℕ → ℕ → ℕ → Asked
both_at table x at a b rounds m = part_at table x at a rounds m && part_at table x at b rounds m

-- the other answers than those of a part
abbrev pub turned_at : PredTable → Rtx → ℕ → ℕ → Asked
turned_at table x at a rounds m = not (part_at table x at a rounds m)

-- a choice between parts of the question at a place
abbrev pub choice_at : PredTable → Rtx → ℕ → ℕ → ℕ → ℕ → Asked
choice_at table x at a b c rounds m =
    if part_at table x at a rounds m then part_at table x at b rounds m
    else part_at table x at c rounds m

-- a node at a place
abbrev pub node_at : PredTable → Rtx → ℕ → Node → Asked
node_at table x at node rounds m =
    node_holds table x (record { place = at; mode = m; rounds = rounds }) node

-- a predicate
abbrev pub named_by : PredTable → Rtx → List ℕ → Asked
named_by table x name rounds m = asked_within table rounds name x m

-- a definition
abbrev pub defined_by : PredTable → Rtx → Option Definition → Asked
defined_by table x definition rounds m =
    kept_holds (asked_within table rounds) x m table.definitions.rows definition

-- what is known of a place
abbrev pub known_in : List (Option Answers) → ℕ → Option Answers
known_in known place = slice_index_or known place None

-- what is known of places is so
abbrev pub AreKnown : PredTable → Rtx → List (Option Answers) → Type 0
AreKnown table x known =
    (place : ℕ) → IfSome (known_in known place) (AreAnswers (at_place table x place))
