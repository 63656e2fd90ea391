use Rattle.gen_emit.proofs.Starts.{back_none, back_more}
use Rattle.gen_emit.proofs.layout.back.Goals as goal

pub loop-step-init : goal.loop-step-init
loop-step-init c = back_none c.args.heads.now c.args.end

pub loop-step-preserved : goal.loop-step-preserved
loop-step-preserved c = back_more c.args.heads.now c.args.end c.loop-step._step c.loop-step.place c.before-place.result c.loop-step.invariant c.before-place.ensures
