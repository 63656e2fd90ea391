use Rattle.std.proofs.Common.{ap, sym, ◌∙◌}
use Rattle.reg_rows.specs.Row.{has}
use Rattle.rtl_func.specs.Successors.{successors_of}
use Rattle.live_chain.proofs.BehindLaws.{after_is}
use Rattle.live_chain.proofs.behind.row_after.Goals as goal

pub returns-clause-live : goal.returns-clause-live
returns-clause-live c = λ f is exact.
    after_is f c.args.rows.now c.args.place c.successors-next.result.first c.successors-next.result.second
    (has c.in_ok-row.row) (has c.add_at.new.to)
    exact (c.successors-next.ensures ∙ ap (λ l. successors_of l c.args.place) (sym is)) c.in_ok-row.ensures.row c.in_ok-add_at.ensures.each
