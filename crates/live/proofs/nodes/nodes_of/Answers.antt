use Rattle.std.proofs.Common.{◌≡◌, Some, List, length, refl, sym, ap, subst, arith}
use Rattle.std.specs.Prelude.{slice_get}
use Rattle.std.proofs.lemmas.List.{length_push}
use Rattle.std.proofs.lemmas.Option.{slice_get_read}
use Rattle.rtx_tree.specs.declared.function.Insn.{Insn}
use Rattle.live.specs.machine.Nodes.{AreNodes}
use Rattle.live.proofs.NodeLaws.{AreSome, AreSome-push, AreNodes-push}
use Rattle.live.proofs.nodes.nodes_of.Goals as goal

pub loop-at-preserved : goal.loop-at-preserved
loop-at-preserved c =
    let f = c.args.f.now in
    let inv = c.loop-at.invariant in
    let at = c.loop-at.at in
    let insn = c.index-insns-at.result in
    let read : slice_get c.as_slice-insns.result.now at ≡ Some insn = slice_get_read c.as_slice-insns.result.now _ at insn refl (omega arith) c.index-insns-at.is in
    let here : slice_get f.insns at ≡ Some insn = subst (λ (insns : List Insn). slice_get insns at ≡ Some insn) c.as_slice-insns.ensures.value read in
    let pushed = c.in_ok-push.ensures.ok in
    record {
      long = omega (arith, ap length pushed, length_push c.loop-at.nodes c.in_ok-node.node, inv.long);
      each = subst (AreSome f) (sym pushed) (AreSome-push f c.loop-at.nodes at insn c.in_ok-node.node inv.each inv.long here c.in_ok-node.ensures);
    }

pub returns : goal.returns
returns c =
    let f = c.args.f.now in
    let inv = c.loop-at.invariant in
    let long : length c.loop-at.nodes ≡ length f.insns = omega (arith, inv.long, c.as_slice-insns.ensures.len) in
    subst (AreNodes f) (sym c.in_ok-push-2.ensures.ok) (AreNodes-push f c.loop-at.nodes c.in_ok-end.end inv.each long c.in_ok-end.ensures)
