-- How a test is put into a row. These definitions serve the contracts of private functions alone.
use Rattle.std.specs.Prelude.{◌≡◌, ℕ, ◌<◌, Bool, false, List, length, map, All}
use Rattle.rtx_tree.specs.declared.code.Mode.{Mode}
use Rattle.rtx_tree.specs.declared.tree.Rtx.{Rtx}
use Rattle.pred_expr.specs.declared.question.Question.{Question}
use Rattle.pred_expr.specs.declared.question.Test.{Test}
use Rattle.pred_rows.specs.declared.node.Node.{Node}
use Rattle.pred_rows.specs.Tests.{Accepts, answer, test_holds}
use Rattle.pred_rows.specs.machine.Rows.{answer_at, node_answer, answers}

-- the node asks this question, of the nodes at these places
abbrev pub Asks : Question → List ℕ → Node → Type 0
Asks question parts node =
    (accepts : Accepts) (x : Rtx) (m : Mode) (before : List Bool) →
    node_answer accepts x m before node ≡ answer accepts x m question (map (answer_at before) parts)

-- the roots of some tests in a row
pub record AreRoots (nodes : List Node) (tests : List Test) (roots : List ℕ) : Type 0 where
  pub within : All (λ root. root < length nodes) roots
  pub means : (accepts : Accepts) (x : Rtx) (m : Mode) →
      map (answer_at (answers accepts x m nodes)) roots ≡ map (test_holds accepts x m) tests

-- a node that never holds
abbrev pub IsNever : Node → Type 0
IsNever node =
    (accepts : Accepts) (x : Rtx) (m : Mode) (before : List Bool) →
    node_answer accepts x m before node ≡ false
