use Rattle.std.proofs.Common.{sym, ◌∙◌, arith}
use Rattle.combine.proofs.Found.{pass_more, pass_upto}
use Rattle.combine.proofs.link.pass_between.Goals as goal

pub loop-place-preserved : goal.loop-place-preserved
loop-place-preserved c = record {
  passed = pass_more c.args.chain.now c.args.first c.loop-place.place c.args.reg c.insn.result.now c.insn.ensures (sym c.passes.ensures ∙ c.if-not-passes.false) c.loop-place.invariant.passed;
  above = omega arith;
  upto = omega arith;
}

pub returns-clause-all : goal.returns-clause-all
returns-clause-all c told = pass_upto c.args.chain.now c.args.first c.loop-place.place c.args.second c.args.reg c.loop-place-test.false c.loop-place.invariant.passed
