-- Tests that are kept as their questions in a row, each behind the questions that it is made of.
use Rattle.std.specs.Prelude.{◌≡◌, ℕ, ◌<◌, Bool, false, not, ◌&&◌, ◌||◌, List, [], ◌∷◌, ◌++◌, length, slice_index_or, if◌then◌else◌}
use Rattle.rtx_tree.specs.declared.code.Mode.{Mode}
use Rattle.rtx_tree.specs.declared.tree.Rtx.{Rtx}
use Rattle.c_cond.specs.Tree.{tree_of}
use Rattle.pred_expr.specs.declared.question.Test.{Test}
use Rattle.pred_rows.specs.declared.node.Node.{Node}
use Rattle.pred_rows.specs.declared.node.Node.TheVariants as node
use Rattle.pred_rows.specs.Tests.{Accepts, has_code, condition_holds, test_holds}
use Rattle.rtx_tree.specs.Code.{mode_or}

-- the answer at a place; where there is no node nothing holds
abbrev pub answer_at : List Bool → ℕ → Bool
answer_at answers place = slice_index_or answers place false

-- the answer of a node, with the answers of the nodes before it
abbrev pub node_answer : Accepts → Rtx → Mode → List Bool → Node → Bool
node_answer accepts x m before (node.Codes cs) = has_code cs x
node_answer accepts x m before (node.Condition heads) = condition_holds (tree_of heads) x
node_answer accepts x m before (node.Predicate name own) = accepts name x (mode_or own m)
node_answer accepts x m before (node.And a b) = answer_at before a && answer_at before b
node_answer accepts x m before (node.Ior a b) = answer_at before a || answer_at before b
node_answer accepts x m before (node.Not a) = not (answer_at before a)
node_answer accepts x m before (node.IfThenElse a b c) =
    if answer_at before a then answer_at before b else answer_at before c

-- the answers of some nodes, and before them those of the nodes before them
abbrev pub answers_behind : Accepts → Rtx → Mode → List Bool → List Node → List Bool
answers_behind accepts x m before [] = before
answers_behind accepts x m before (n ∷ ns) =
    answers_behind accepts x m (before ++ node_answer accepts x m before n ∷ []) ns

-- the answers of the nodes of a row
abbrev pub answers : Accepts → Rtx → Mode → List Node → List Bool
answers accepts x m nodes = answers_behind accepts x m [] nodes

-- whether the test whose root stands at a place of a row holds for an operand that is asked for in
-- a mode
abbrev pub holds_at : Accepts → Rtx → Mode → List Node → ℕ → Bool
holds_at accepts x m nodes root = answer_at (answers accepts x m nodes) root

-- a test stands in a row, with its root at a place
pub record IsRoot (nodes : List Node) (test : Test) (root : ℕ) : Type 0 where
  pub within : root < length nodes
  pub means : (accepts : Accepts) (x : Rtx) (m : Mode) →
      holds_at accepts x m nodes root ≡ test_holds accepts x m test
