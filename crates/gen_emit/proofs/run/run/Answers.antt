use Rattle.std.proofs.lemmas.Result.{IfOk-weaker}
use Rattle.gen_emit.proofs.Taken.{ran}
use Rattle.gen_emit.proofs.run.run.Goals as goal

pub returns : goal.returns
returns g c =
    IfOk-weaker c.finish.result _ _
    (λ r is. ran c.args.facts.now (g.P.Preds.accepts c.args.preds.now) c.heads-heads.result.now c.args.statements.now c.in_ok-first_tasks.field-0 c.new.result c.args.draft r
    c.heads-heads.ensures.tree c.in_ok-first_tasks.ensures c.new.ensures is)
    c.finish.ensures
