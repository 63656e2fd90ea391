use Rattle.std.proofs.Common.{sym, ◌∙◌, ◌<◌, arith}
use Rattle.func_run.proofs.Runs.{run_goes, run_ends, same_answer}
use Rattle.func_run.proofs.run.run_from.Goals as goal

pub loop-i-preserved : goal.loop-i-preserved
loop-i-preserved c = run_goes _ _ _ _ _ _ c.in_ok-end.end _ (omega arith) (sym c.goes_on.ensures ∙ c.if-not-goes_on.false) c.in_ok-end.ensures.step c.loop-i.invariant

pub returns-then-not-goes_on : goal.returns-then-not-goes_on
returns-then-not-goes_on c =
    let less : c.loop-i._i < c.args.n = omega arith in
    same_answer c.ended.result _ _
    (run_ends c.args.world.now c.args.f.now c.args.n c.loop-i._i c.loop-i.state c.step_insn.new.state c.in_ok-end.end _ less (sym c.goes_on.ensures ∙ c.if-not-goes_on.true) c.in_ok-end.ensures.step c.loop-i.invariant) c.ended.ensures
