use Rattle.std.proofs.Common.{◌∙◌, ap, Some}
use Rattle.std.specs.Prelude.{slice_set}
use Rattle.rtx_pool.proofs.Roots.{placed_root}
use Rattle.rtx_pool.proofs.pool.RtxPool.place.Goals as goal

pub returns-clause-ok : goal.returns-clause-ok
returns-clause-ok c =
    placed_root c.args.self.now.trees c.reserve.new.self c.put.new.self c.put.result.index c.args.x.now
    c.reserve.ensures.same c.reserve.ensures.more c.put.ensures.free
    (c.put.ensures.slots ∙ ap (λ tree. slice_set c.reserve.new.self c.put.result.index (Some tree)) c.in_ok-tree.ensures)
    c.put.ensures.spare
