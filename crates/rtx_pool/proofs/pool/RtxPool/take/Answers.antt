use Rattle.rtx_pool.proofs.Roots.{released_root}
use Rattle.rtx_pool.proofs.pool.RtxPool.take.Goals as goal

pub returns-clause-released : goal.returns-clause-released
returns-clause-released c =
    released_root c.args.self.now.trees c.take.new.self c.args.root.index c.take.result
    c.take.ensures.old c.take.ensures.slots c.take.ensures.spare
