use Rattle.std.proofs.Common.{◌∙◌}
use Rattle.combine.proofs.Found.{put_made}
use Rattle.combine.proofs.window.put_between.Goals as goal

pub returns-clause-put : goal.returns-clause-put
returns-clause-put c =
    put_made c.args.chain.now c.live_after.new.self c.move_gap.new.self c.args.first c.args.end c.args.x c.in_ok-live.live c.as_slice.result.now c.compared.result c.in_ok-live.ensures.same c.in_ok-move_gap.ensures
    c.requires.order c.requires.within c.in_ok-live.ensures.live (c.as_slice.ensures.value ∙ c.in_ok-window.ensures) c.compared.ensures
