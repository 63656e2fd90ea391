use Rattle.std.proofs.Common.{ℕ, ◌<◌, List, sym, subst}
use Rattle.std.specs.Prelude.{All}
use Rattle.assign.specs.machine.Picked.{beside, IsPicked}
use Rattle.assign.proofs.HomeLaws.{order_below}
use Rattle.assign.proofs.assigned.pick_in_order.Goals as goal

pub pick-requires-clause-order : goal.pick-requires-clause-order
pick-requires-clause-order c = subst (All (λ hard. hard < 64)) (sym c.allocation_order-order.ensures) order_below

pub returns-clause-picked : goal.returns-clause-picked
returns-clause-picked c = subst (λ (order : List ℕ). IsPicked (beside c.args.rows.now) order c.in_ok-homes.homes) c.allocation_order-order.ensures c.in_ok-homes.ensures.picked
