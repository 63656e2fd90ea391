use Rattle.reload_choice.proofs.PlanLaws.{planned_in}
use Rattle.reload_choice.proofs.choice.Choice.plan_in.Goals as goal

pub returns : goal.returns
returns c =
    planned_in c.args.self.now.constraints.now c.args.self.now.given.now c.args.self.now.formed.now c.args.alternative c.plan_by.result
    c.args.self.now.desc.now c.args.self.now.form c.as_slice.result.now c.as_slice.ensures.value c.plan_by.ensures
