-- A function's chain as a graph.
use Rattle.std.specs.Prelude.{◌≡◌, ℕ, ◌+◌, false, List, Some, slice_get, length}
use Rattle.rtx_tree.specs.declared.function.Insn.{Insn}
use Rattle.rtx_tree.specs.declared.function.Function.{Function}
use Rattle.rtl_func.specs.Paths.{leads}
use Rattle.reg_uses.specs.Uses.{insn_defines, return_uses}
use Rattle.live_rows.specs.declared.node.Node.{Node}
use Rattle.live_rows.specs.Paths as paths
use Rattle.live.specs.Live.{uses_in}

-- the node uses and defines what the instruction at a place does, and leads where that leads
pub record IsNodeOf (f : Function) (p : ℕ) (i : Insn) (node : Node) : Type 0 where
  pub uses : (reg : ℕ) → paths.uses node reg ≡ uses_in f i reg
  pub defines : (reg : ℕ) → paths.defines node reg ≡ insn_defines i reg
  pub leads : (q : ℕ) → paths.leads_to node q ≡ leads f.insns p q

-- the node uses what a return uses, and leads nowhere
pub record IsEndOf (f : Function) (node : Node) : Type 0 where
  pub uses : (reg : ℕ) → paths.uses node reg ≡ return_uses f reg
  pub leads : (q : ℕ) → paths.leads_to node q ≡ false

-- there is a node for each place, and one for the end
pub record AreNodes (f : Function) (nodes : List Node) : Type 0 where
  pub long : length nodes ≡ length f.insns + 1
  pub each : (p : ℕ) (i : Insn) (node : Node) → slice_get f.insns p ≡ Some i →
      slice_get nodes p ≡ Some node → IsNodeOf f p i node
  pub last : (node : Node) → slice_get nodes (length f.insns) ≡ Some node → IsEndOf f node
