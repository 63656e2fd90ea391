use Rattle.std.proofs.Common.{◌≡◌, ℕ, List, sym, subst}
use Rattle.live_rows.specs.machine.Rows.{IsSound}
use Rattle.live_rows.proofs.PathLaws.{IsSound-uses}
use Rattle.live_rows.proofs.WaitLaws.{AreLeft-all}
use Rattle.live_rows.proofs.solve.live_rows.Goals as goal

pub solve-requires-clause-sound : goal.solve-requires-clause-sound
solve-requires-clause-sound c =
    subst (λ (rows : List (List ℕ)). IsSound c.args.nodes.now rows) (sym c.as_mut_slice.ensures.value) (IsSound-uses c.args.nodes.now _ c.in_ok-rows.ensures.each)

pub solve-requires-clause-pending : goal.solve-requires-clause-pending
solve-requires-clause-pending c = AreLeft-all c.args.nodes.now _ _ c.in_ok-now.ensures.each
