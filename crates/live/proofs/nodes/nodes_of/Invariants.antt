use Rattle.std.proofs.Common.{◌≡◌, ℕ, length}
use Rattle.std.specs.Prelude.{Some, slice_get}
use Rattle.rtx_tree.specs.declared.function.Insn.{Insn}
use Rattle.live_rows.specs.declared.node.Node.{Node}
use Rattle.live.specs.machine.Nodes.{IsNodeOf}
use Rattle.live.proofs.nodes.nodes_of.Given as goal

abbrev pub invariant-loop-at : goal.invariant-loop-at
invariant-loop-at l = record {
  long : length l.nodes ≡ l.at;
  each : (p : ℕ) (i : Insn) (node : Node) → slice_get l.f.insns p ≡ Some i → slice_get l.nodes p ≡ Some node → IsNodeOf l.f p i node;
}
