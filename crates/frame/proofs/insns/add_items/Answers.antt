use Rattle.std.proofs.Common.{◌≡◌, ◌∙◌, ap, ◌++◌}
use Rattle.law_frame.specs.Frame.{epilogue}
use Rattle.frame.specs.machine.Items.{item_by, uid_by}
use Rattle.frame.proofs.Pushes.{left_more, uid_more}
use Rattle.frame.proofs.insns.add_items.Goals as goal

pub loop-insn-preserved : goal.loop-insn-preserved
loop-insn-preserved c =
    let same : c.as_slice.result.now ≡ epilogue c.args.layout.now = c.as_slice.ensures.value ∙ c.in_ok-left.ensures in record {
      put = left_more c.args.layout.now c.args.uid c.loop-insn.next c.loop-insn.yielded c.in-Some.insn c.args.insns.now c.loop-insn.insns
          c.add_item.new.insns c.loop-insn.invariant.put c.loop-insn.invariant.number
          (c.in_ok-next.ensures.put ∙ ap (λ e. c.loop-insn.insns ++ item_by e c.loop-insn.next c.in-Some.insn) same);
      number = uid_more c.args.layout.now c.args.uid c.loop-insn.next c.in_ok-next.next c.loop-insn.yielded c.in-Some.insn
          c.loop-insn.invariant.number (c.in_ok-next.ensures.next ∙ ap (λ e. uid_by e c.loop-insn.next c.in-Some.insn) same);
    }
