use Rattle.std.proofs.Common.{◌*◌, ◌<◌, arith}
use Rattle.reg_rows.proofs.WidthLaws.{HasRoom-more, All-taken}
use Rattle.reg_rows.proofs.row.width_of.Goals as goal

pub loop-reg-preserved : goal.loop-reg-preserved
loop-reg-preserved c =
    let inv = c.loop-reg.invariant in
    record {
      from = omega (arith, inv.from, c.max-width.ensures);
      small = omega (arith, inv.small, c.max-width.ensures, c.type_inv.regs c.loop-reg.reg-index);
      room = HasRoom-more c.args.regs.now c.loop-reg.reg-index c.loop-reg.width c.max-width.result (omega arith) inv.room (omega (arith, c.max-width.ensures)) (omega (arith, c.max-width.ensures));
    }

pub returns-clause-room : goal.returns-clause-room
returns-clause-room c = All-taken (λ reg. reg < 64 * c.loop-reg.width) c.args.regs.now c.loop-reg.reg-index (omega arith) c.loop-reg.invariant.room
