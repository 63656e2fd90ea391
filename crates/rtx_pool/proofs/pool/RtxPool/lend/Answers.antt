use Rattle.rtx_pool.proofs.Parts.{some_is}
use Rattle.rtx_pool.proofs.Roots.{changed_root}
use Rattle.rtx_pool.proofs.pool.RtxPool.lend.Goals as goal

pub returns-clause-live : goal.returns-clause-live
returns-clause-live c =
    some_is _ c.const_int.result
    (changed_root c.args.self.now.trees c.set.new.self c.args.root.index c.set.result c.const_int.result c.set.ensures.old c.set.ensures.slots).tree_is

pub returns-clause-others : goal.returns-clause-others
returns-clause-others c =
    (changed_root c.args.self.now.trees c.set.new.self c.args.root.index c.set.result c.const_int.result c.set.ensures.old c.set.ensures.slots).others

pub returns-clause-room : goal.returns-clause-room
returns-clause-room c =
    (changed_root c.args.self.now.trees c.set.new.self c.args.root.index c.set.result c.const_int.result c.set.ensures.old c.set.ensures.slots).room
