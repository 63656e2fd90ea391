use Rattle.md_tables.proofs.DepthLaws.{rounds_decide}
use Rattle.md_tables.proofs.predicates.is_last.Goals as goal

pub returns : goal.returns
returns c = rounds_decide c.args.next.now c.args.depths.now c.eq.result c.eq.ensures
