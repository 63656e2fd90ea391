use Rattle.std.proofs.Common.{arith, rules}
use Rattle.reg_rows.specs.Row.{has}
use Rattle.reg_conflicts.proofs.MarkLaws.{listed_joined}
use Rattle.reg_conflicts.proofs.mark.mark.Goals as goal

pub loop-reg-preserved : goal.loop-reg-preserved
loop-reg-preserved c = record {
  sparse = search rules;
  each = λ x y. listed_joined c.args.regs.now c.loop-reg.reg-index x y _ _ _ (has c.args.set.now y) (has c.args.set.now x) (omega arith) (c.loop-reg.invariant.each x y) (c.in_ok-mark_one.ensures.each x y);
}
