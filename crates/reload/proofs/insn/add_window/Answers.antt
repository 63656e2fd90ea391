use Rattle.std.proofs.Common.{◌∙◌}
use Rattle.reload.proofs.Running.{window_added}
use Rattle.reload.proofs.insn.add_window.Goals as goal

pub returns : goal.returns
returns c =
    window_added c.args.setting.now.desc.now c.args.uid c.args.insn.now c.args.given.now
    c.args.plan.now c.as_slice.result.now
    c.as_slice-2.result.now c.in_ok-between.between c.args.insns.now c.add_moves.new.insns
    c.add_with.new.insns
    c.add_moves-2.new.insns c.in_ok-next.next c.add_moves-2.result
    (c.as_slice.ensures.value ∙ c.in_ok-before.ensures)
    c.in_ok-between.ensures (c.as_slice-2.ensures.value ∙ c.in_ok-after.ensures)
    c.in_ok-next.ensures c.in_ok-add_with.ensures
    c.add_moves-2.ensures
