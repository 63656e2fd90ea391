use Rattle.std.proofs.Common.{ap, sym, ◌∙◌}
use Rattle.rtl_func.specs.Successors.{successors_of}
use Rattle.live_chain.proofs.BehindLaws.{after_at}
use Rattle.live_chain.proofs.behind.is_after.Goals as goal

pub returns : goal.returns
returns c = λ f is exact.
    after_at f c.args.rows.now c.args.place c.args.reg c.successors-next.result.first c.successors-next.result.second
    c.either_has.result exact (c.successors-next.ensures ∙ ap (λ l. successors_of l c.args.place) (sym is)) c.either_has.ensures
