-- What the rules ask of each tree within a pattern, by the function in which it stands.
use Rattle.std.specs.Prelude.{Bool}
use Rattle.std.specs.List.{list_all}
use Rattle.rtx_tree.specs.declared.function.Function.{Function}
use Rattle.rtx_tree.specs.declared.tree.Rtx.{Rtx}
use Rattle.rtl_func.specs.declared.nodes.NodeRule.{NodeRule}
use Rattle.rtl_func.specs.declared.nodes.NodeRule.TheVariants.{LabelStands, HasItsMode, IsStackVariable}
use Rattle.rtl_func.specs.Nodes.{nodes_of}
use Rattle.rtl_func.specs.Kinds.{label_stands}
use Rattle.rtl_func.specs.Modes.{has_its_mode}
use Rattle.rtl_func.specs.Effects.{has_stack_variables}

abbrev pub node_keeps : NodeRule → Function → Rtx → Bool
node_keeps LabelStands f x = label_stands f.insns x
node_keeps HasItsMode f x = has_its_mode f.insns x
node_keeps IsStackVariable f x = has_stack_variables f.locals x

-- a tree and all trees within it
abbrev pub nodes_keep : NodeRule → Function → Rtx → Bool
nodes_keep rule f x = list_all (node_keeps rule f) (nodes_of x)
