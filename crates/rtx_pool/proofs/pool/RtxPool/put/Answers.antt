use Rattle.std.proofs.Common.{refl, arith}
use Rattle.rtx_pool.proofs.Roots.{placed_root}
use Rattle.rtx_pool.proofs.pool.RtxPool.put.Goals as goal

pub returns : goal.returns
returns c =
    placed_root c.args.self.now.trees c.args.self.now.trees c.put.new.self c.put.result.index c.args.tree
    (λ at. refl) (omega arith) c.put.ensures.free c.put.ensures.slots c.put.ensures.spare
