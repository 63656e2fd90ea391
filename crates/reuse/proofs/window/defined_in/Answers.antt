use Rattle.std.proofs.Common.{◌+◌, ◌++◌, ◌∷◌, [], take, ap, sym, ◌∙◌, arith}
use Rattle.std.proofs.lemmas.Grind.{take_at_read}
use Rattle.reuse.proofs.Last.{one_more}
use Rattle.reuse.proofs.window.defined_in.Goals as goal

pub loop-insn-preserved : goal.loop-insn-preserved
loop-insn-preserved c n =
    let l = c.loop-insn in
    let insns = c.args.insns.now in
    one_more c.add_all.new.to l.regs c.as_slice-in-loop-insn.result.now c.in_ok-insn_defines.field-0 (take l.insn-index insns) (take (l.insn-index + 1) insns) c.insn-item.result n
    (c.in_ok-add_all.ensures n) c.as_slice-in-loop-insn.ensures.value (c.in_ok-insn_defines.ensures n) (l.invariant n)
    ((take_at_read insns l.insn-index c.insn-item.result (omega arith)).1 ∙ ap (λ i. take l.insn-index insns ++ i ∷ []) (sym c.insn-item.is))
