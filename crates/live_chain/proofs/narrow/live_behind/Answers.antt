use Rattle.live_chain.proofs.NarrowLaws.{live_is, set_narrow}
use Rattle.live_chain.proofs.narrow.live_behind.Goals as goal

pub returns-clause-live : goal.returns-clause-live
returns-clause-live c = λ f is exact.
    live_is f c.args.place c.in_ok-row.row c.in_ok-live.live (c.in_ok-row.ensures.live f is exact) c.in_ok-live.ensures
    c.contains-first.ensures.ordered

pub returns-clause-small : goal.returns-clause-small
returns-clause-small c =
    set_narrow c.in_ok-row.row c.in_ok-live.live c.in_ok-row.ensures.narrow
    c.in_ok-live.ensures
