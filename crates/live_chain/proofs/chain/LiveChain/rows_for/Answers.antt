use Rattle.std.proofs.Common.{sym, subst}
use Rattle.std.specs.Prelude.{IfOk, IfSome}
use Rattle.live.specs.Live.{AreLiveRows}
use Rattle.live_chain.specs.Rows.{AreRowsFor}
use Rattle.live_chain.specs.machine.Whole.{with_chain}
use Rattle.live_chain.proofs.chain.LiveChain.rows_for.Goals as goal

pub returns-clause-rows : goal.returns-clause-rows
returns-clause-rows c =
    let a = c.args in
    let was = c.self.inside in
    subst (λ f. IfOk c.rows_inside.result (λ rows. IfSome rows (AreRowsFor f a.first a.end a.new.now))) c.self.view_is
    (c.rows_inside.ensures.made (with_chain was.frame was.insns) (sym c.move_gap.ensures)
    (subst (λ rows. IfSome rows (AreLiveRows (with_chain was.frame was.insns))) (sym c.move_rows.ensures) c.self.invariant.live))
