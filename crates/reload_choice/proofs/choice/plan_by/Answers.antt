use Rattle.reload_choice.specs.machine.Asked.{asks_in}
use Rattle.reload_choice.proofs.PlanLaws.{planned_by}
use Rattle.reload_choice.proofs.choice.plan_by.Goals as goal

pub returns : goal.returns
returns c =
    planned_by c.args.asked.now.constraints.now c.args.given.now c.args.formed.now c.args.asked.now.alternative c.planned.result
    (asks_in c.args.asked.now) c.args.asked.now.operands.now
    c.in_ok-fits.fits c.as_slice.result.now c.as_slice-2.result.now c.in_ok-parts.parts
    c.in_ok-fits.ensures c.as_slice.ensures.value c.as_slice-2.ensures.value c.in_ok-parts.ensures c.planned.ensures
