use Rattle.md_pred.proofs.Knowing.{question_known}
use Rattle.md_pred.proofs.table.PredTable.place_known.Goals as goal

pub returns-in-Some : goal.returns-in-Some
returns-in-Some c =
    question_known c.args.self.now c.args.x.now c.args.place c.in-Some.node.now c.nodes.result.now c.node_known.result c.nodes.ensures
    c.in-Some.ensures.lookup.3.0 (c.in-Some.ensures.lookup.3.1 c.in-Some.node.now) c.node_known.ensures
