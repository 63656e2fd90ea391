use Rattle.std.proofs.Common.{ap, sym, ◌∙◌}
use Rattle.gen_emit.specs.machine.Plans.{outcome}
use Rattle.gen_emit.proofs.Taken.{last_task, front_tasks, went_on, failed, was_done, lessened}
use Rattle.gen_emit.proofs.plan.Program.finish.Goals as goal

pub step-requires-clause-task : goal.step-requires-clause-task
step-requires-clause-task g c = last_task c.args.self.now.heads.now c.loop-task.tasks c.pop.new.self c.in-Some.task c.in-Some.ensures c.loop-task.invariant.are

pub step-requires-clause-tasks : goal.step-requires-clause-tasks
step-requires-clause-tasks g c = front_tasks c.args.self.now.heads.now c.loop-task.tasks c.pop.new.self c.in-Some.task c.in-Some.ensures c.loop-task.invariant.are

pub loop-task-smaller : goal.loop-task-smaller
loop-task-smaller g c =
    lessened c.args.self.now.facts.now (g.P.Preds.accepts c.args.self.now.preds.now) c.args.self.now.heads.now c.loop-task.tasks c.pop.new.self c.in-Some.task c.loop-task.state c.in_ok-step.field-0 c.step.new.tasks c.step.new.state c.in-Next.is c.in-Some.ensures c.in_ok-step.ensures

pub loop-task-preserved : goal.loop-task-preserved
loop-task-preserved g c = record {
  are = c.in_ok-step.ensures.tasks;
  same = went_on c.args.self.now.facts.now (g.P.Preds.accepts c.args.self.now.preds.now) c.args.self.now.heads.now c.loop-task.tasks c.pop.new.self c.in-Some.task c.loop-task.state c.in_ok-step.field-0 c.step.new.tasks c.step.new.state c.in-Next.is c.in-Some.ensures c.in_ok-step.ensures ∙ c.loop-task.invariant.same;
}

pub returns-in-Fail : goal.returns-in-Fail
returns-in-Fail g c =
    failed c.args.self.now.facts.now (g.P.Preds.accepts c.args.self.now.preds.now) c.args.self.now.heads.now c.loop-task.tasks c.pop.new.self c.in-Some.task c.loop-task.state c.in_ok-step.field-0 c.step.new.tasks c.step.new.state c.in-Fail.is c.in-Some.ensures c.in_ok-step.ensures ∙ c.loop-task.invariant.same

pub returns-in-Done : goal.returns-in-Done
returns-in-Done g c =
    was_done c.args.self.now.facts.now (g.P.Preds.accepts c.args.self.now.preds.now) c.args.self.now.heads.now c.loop-task.tasks c.pop.new.self c.in-Some.task c.loop-task.state c.in_ok-step.field-0 c.step.new.tasks c.step.new.state c.in-Done.is c.in-Some.ensures c.in_ok-step.ensures ∙ c.loop-task.invariant.same

pub returns : goal.returns
returns g c =
    sym (ap (λ ts. outcome c.args.self.now.facts.now (g.P.Preds.accepts c.args.self.now.preds.now) c.args.self.now.heads.now ts c.loop-task.state) c.in_default.ensures.0) ∙ c.loop-task.invariant.same
