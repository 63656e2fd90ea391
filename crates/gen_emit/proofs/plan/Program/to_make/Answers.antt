use Rattle.gen_emit.proofs.Plans.{make_plan}
use Rattle.gen_emit.proofs.plan.Program.to_make.Goals as goal

pub returns : goal.returns
returns g c =
    make_plan c.args.self.now.facts.now (g.P.Preds.accepts c.args.self.now.preds.now) c.args.self.now.heads.now c.args.draft.now c.args.end c.node_at-node.result.head.now c.node_at-node.result.parts c.node_at-node.ensures c.plan_to_make.result c.plan_to_make.ensures
