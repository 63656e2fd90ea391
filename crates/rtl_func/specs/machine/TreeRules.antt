-- What the rules ask of each tree within a pattern, whatever the function is.
use Rattle.std.specs.Prelude.{Bool}
use Rattle.std.specs.List.{list_all}
use Rattle.rtx_tree.specs.declared.tree.Rtx.{Rtx}
use Rattle.rtl_func.specs.declared.trees.TreeRule.{TreeRule}
use Rattle.rtl_func.specs.declared.trees.TreeRule.TheVariants.{IsPlain, IsShaped, HasCallMode, IsArgument, HoldsSimple}
use Rattle.rtl_func.specs.Nodes.{nodes_of}
use Rattle.rtl_func.specs.Shapes.{is_shaped, has_call_mode}
use Rattle.rtl_func.specs.Kinds.{is_plain_tree}
use Rattle.rtl_func.specs.Calls.{has_argument}
use Rattle.rtl_func.specs.Effects.{holds_simple}

abbrev pub tree_keeps : TreeRule → Rtx → Bool
tree_keeps IsPlain x = is_plain_tree x
tree_keeps IsShaped x = is_shaped x
tree_keeps HasCallMode x = has_call_mode x
tree_keeps IsArgument x = has_argument x
tree_keeps HoldsSimple x = holds_simple x

-- a tree and all trees within it
abbrev pub trees_keep : TreeRule → Rtx → Bool
trees_keep rule x = list_all (tree_keeps rule) (nodes_of x)
