use Rattle.std.proofs.Common.{◌≡◌, ◌<◌, ◌||◌, ◌&&◌, not, true, ap, ◌∙◌, rules, arith}
use Rattle.rtx_tree.specs.RegSet.{has_reg}
use Rattle.reg_uses.specs.Uses.{insn_uses, insn_defines}
use Rattle.live_chain.specs.machine.Window.{passes}
use Rattle.live_chain.proofs.WideLaws.{passing_step, named_step}
use Rattle.live_chain.proofs.wide.block_to.Goals as goal

pub loop-alloc-preserved : goal.loop-alloc-preserved
loop-alloc-preserved c =
    let before = c.loop-alloc.invariant in
    let some : 0 < c.loop-alloc.from = omega (arith, c.if-from-eq0.false) in
    let on : passes c.item-insn.result.now ≡ true = search rules in
    record {
      order = omega (arith, before.order);
      passing = passing_step c.args.insns.now c.loop-alloc.from c.args.first c.item-insn.result.now some before.order c.item-insn.ensures on before.passing;
      named = λ reg has. named_step c.args.insns.now c.loop-alloc.from c.args.first c.item-insn.result.now reg _ _ some before.order c.item-insn.ensures (c.in_ok-left.ensures reg ∙ ap (λ l. has_reg l reg && not (insn_uses c.item-insn.result.now reg || insn_defines c.item-insn.result.now reg)) c.as_slice.ensures.value) (before.named reg has);
    }
