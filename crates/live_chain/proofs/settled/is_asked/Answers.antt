use Rattle.std.proofs.Common.{sym, ◌∙◌, arith}
use Rattle.live_chain.proofs.TailLaws.{asked_here, asked_never, asked_on, none_left}
use Rattle.live_chain.proofs.settled.is_asked.Goals as goal

pub returns-then-does_use : goal.returns-then-does_use
returns-then-does_use c =
    let l = c.loop-place in
    sym (asked_here c.args.insns.now l.place c.args.to c.item-insn.result.now c.args.reg c.loop-place-test.true c.item-insn.ensures (sym c.does_use.ensures ∙ c.if-does_use.true)) ∙ l.invariant.rest

pub returns-then-does_define : goal.returns-then-does_define
returns-then-does_define c =
    let l = c.loop-place in
    sym (asked_never c.args.insns.now l.place c.args.to c.item-insn.result.now c.args.reg c.loop-place-test.true c.item-insn.ensures (sym c.does_use.ensures ∙ c.if-does_use.false) (sym c.does_define.ensures ∙ c.if-does_define.true)) ∙ l.invariant.rest

pub loop-place-preserved : goal.loop-place-preserved
loop-place-preserved c =
    let l = c.loop-place in
    record {
      upto = omega (arith, c.loop-place-test.true);
      rest = sym (asked_on c.args.insns.now l.place c.args.to c.item-insn.result.now c.args.reg c.loop-place-test.true c.item-insn.ensures (sym c.does_use.ensures ∙ c.if-does_use.false) (sym c.does_define.ensures ∙ c.if-does_define.false)) ∙ l.invariant.rest;
    }

pub returns : goal.returns
returns c =
    let l = c.loop-place in
    sym (none_left c.args.insns.now l.place c.args.to c.args.reg (omega (arith, c.loop-place-test.false, l.invariant.upto))) ∙ l.invariant.rest
