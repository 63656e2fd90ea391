use Rattle.schedule.proofs.PlanLaws.{order_long}
use Rattle.schedule.proofs.plan.plan_of.Goals as goal

pub returns-clause-long : goal.returns-clause-long
returns-clause-long c =
    let a = c.args in
    let places = rw c.as_slice.ensures.value at c.in_ok-cycles.ensures in
    let is = rw c.as_slice-2.ensures.value at c.in_ok-order.ensures in
    let puts = rw c.as_slice-3.ensures.value at c.in_ok-insns_in.ensures in
    order_long a.desc.now a.pipe.now c.requires.lawful a.insns.now c.requires.few c.in_ok-jobs.jobs c.in_ok-cycles.cycles c.in_ok-order.order c.in_ok-insns_in.field-0 c.in_ok-jobs.ensures.jobs places is puts
