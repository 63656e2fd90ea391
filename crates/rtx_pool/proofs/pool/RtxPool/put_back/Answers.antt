use Rattle.rtx_pool.proofs.Roots.{changed_root}
use Rattle.rtx_pool.proofs.pool.RtxPool.put_back.Goals as goal

pub returns : goal.returns
returns c =
    changed_root c.args.self.now.trees c.set.new.self c.args.root.index c.set.result c.args.tree c.set.ensures.old c.set.ensures.slots
