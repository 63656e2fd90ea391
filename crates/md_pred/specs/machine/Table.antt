-- The predicates of a description as a table of them has them.
use Rattle.std.specs.Prelude.{ℕ, Bool, false, ◌&&◌, List, Option, Some, None}
use Rattle.std.specs.Str.{bytes_eq}
use Rattle.std.specs.HashMap.{get_by}
use Rattle.rtx_tree.specs.declared.code.Mode.{Mode}
use Rattle.rtx_tree.specs.declared.tree.Rtx.{Rtx}
use Rattle.pred_rows.specs.declared.node.Node.{Node}
use Rattle.pred_rows.specs.Tests.{Accepts}
use Rattle.pred_rows.specs.machine.Rows.{holds_at}
use Rattle.md_pred.specs.declared.definitions.Definition.{Definition}
use Rattle.md_pred.specs.declared.definitions.Definitions.{Definitions}
use Rattle.md_pred.specs.declared.table.PredTable.{PredTable}
use Rattle.md_pred.specs.Holds.{mode_fits, within}

-- what is kept of the definition of a name
abbrev pub definition_in : Definitions → List ℕ → Option Definition
definition_in ds name = get_by (λ text. bytes_eq name text.items) ds.by_name

-- one without a root accepts nothing
abbrev pub root_holds : Accepts → Rtx → Mode → List Node → Option ℕ → Bool
root_holds other x m nodes None = false
root_holds other x m nodes (Some root) = holds_at other x m nodes root

abbrev pub kept_holds : Accepts → Rtx → Mode → List Node → Option Definition → Bool
kept_holds other x m nodes None = false
kept_holds other x m nodes (Some d) = mode_fits d.head m x && root_holds other x m nodes d.root

-- what a name's definition accepts, by what other predicates accept
abbrev pub kept : Definitions → Accepts → Accepts
kept ds other name x m = kept_holds other x m ds.rows (definition_in ds name)

-- which trees the predicates of a table accept in a mode, by their names
abbrev pub accepted_by : PredTable → Accepts
accepted_by table = within (kept table.definitions) table.rounds
