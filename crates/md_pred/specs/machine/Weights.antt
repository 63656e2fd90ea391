-- Which questions a question of a table asks. These definitions serve the contracts of private
-- functions alone.
use Rattle.std.specs.Prelude.{ℕ, List, [], ◌∷◌, map, Option, Some, None, option_to_list}
use Rattle.pred_rows.specs.declared.node.Node.{Node}
use Rattle.pred_rows.specs.declared.node.Node.TheVariants as node
use Rattle.md_pred.specs.declared.definitions.Definition.{Definition}
use Rattle.md_pred.specs.declared.definitions.Definitions.{Definitions}
use Rattle.md_pred.specs.machine.Table.{definition_in}

abbrev pub root_in : Option Definition → List ℕ
root_in None = []
root_in (Some d) = option_to_list d.root

-- a node asks its parts, or the root of the predicate that it names
abbrev pub asked_by : Definitions → Node → List ℕ
asked_by ds (node.Codes cs) = []
asked_by ds (node.Condition heads) = []
asked_by ds (node.Predicate name own) = root_in (definition_in ds name)
asked_by ds (node.And a b) = a ∷ b ∷ []
asked_by ds (node.Ior a b) = a ∷ b ∷ []
asked_by ds (node.Not a) = a ∷ []
asked_by ds (node.IfThenElse a b c) = a ∷ b ∷ c ∷ []

abbrev pub asked_of : Definitions → List (List ℕ)
asked_of ds = map (asked_by ds) ds.rows
