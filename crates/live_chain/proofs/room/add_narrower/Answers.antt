use Rattle.std.proofs.Common.{◌/◌, ◌%◌, eqb, get_or, sym, arith}
use Rattle.std.proofs.lemmas.Bool.{and_parts, eqb-true}
use Rattle.reg_rows.specs.Row.{has}
use Rattle.live_chain.proofs.BehindLaws.{IsTaken-word, taken_all}
use Rattle.live_chain.proofs.room.add_narrower.Goals as goal

pub loop-reg-preserved-then-is_passed : goal.loop-reg-preserved-then-is_passed
loop-reg-preserved-then-is_passed c =
    let row = c.args.row.now in
    let reg = c.loop-reg.reg in
    let both = and_parts (eqb (reg % 64) 0) (eqb (get_or row (reg / 64) 0) 0) (sym c.if-is_passed.ensures) in
    record {
      taken = IsTaken-word (has c.args.to.now) (has c.loop-reg.to) row reg (eqb-true (reg % 64) 0 both.0) (eqb-true (get_or row (reg / 64) 0) 0 both.1) c.loop-reg.invariant.taken;
      width = c.loop-reg.invariant.width;
    }

pub returns-clause-each : goal.returns-clause-each
returns-clause-each c = taken_all (has c.args.to.now) (has c.loop-reg.to) c.args.row.now c.loop-reg.reg (omega (arith, c.width-end.ensures)) c.loop-reg.invariant.taken
