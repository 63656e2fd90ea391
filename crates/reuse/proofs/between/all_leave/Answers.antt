use Rattle.std.proofs.Common.{sym, ◌∙◌, arith}
use Rattle.reuse.proofs.Found.{leaves_more, leaves_not, leaves_end}
use Rattle.reuse.proofs.between.all_leave.Goals as goal

pub returns-then-does_define : goal.returns-then-does_define
returns-then-does_define c =
    let l = c.loop-place in
    sym (leaves_not c.args.chain.now l.place c.args.second c.args.reg c.insn.result.now c.loop-place-test.true c.insn.ensures (sym c.does_define.ensures ∙ c.if-does_define.true)) ∙ l.invariant.rest

pub loop-place-preserved : goal.loop-place-preserved
loop-place-preserved c =
    let l = c.loop-place in
    record {
      rest = sym (leaves_more c.args.chain.now l.place c.args.second c.args.reg c.insn.result.now c.loop-place-test.true c.insn.ensures (sym c.does_define.ensures ∙ c.if-does_define.false)) ∙ l.invariant.rest;
      above = omega arith;
      upto = omega arith;
    }

pub returns : goal.returns
returns c =
    let l = c.loop-place in
    sym (leaves_end c.args.chain.now l.place c.args.second c.args.reg c.loop-place-test.false) ∙ l.invariant.rest
