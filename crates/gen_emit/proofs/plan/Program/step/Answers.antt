use Rattle.std.proofs.Common.{refl}
use Rattle.gen_emit.specs.declared.plan.Task.TheVariants as task
use Rattle.gen_emit.proofs.Taken.{followed}
use Rattle.gen_emit.proofs.plan.Program.step.Goals as goal

pub returns-in-Run : goal.returns-in-Run
returns-in-Run g c =
    followed c.args.self.now.facts.now (g.P.Preds.accepts c.args.self.now.preds.now) c.args.self.now.heads.now c.args.task (task.Run c.in-Run.end) c.args.tasks.now
    c.follow.result c.to_run.result c.args.state.now c.follow.new.tasks c.requires.tasks c.to_run.ensures c.in-Run.is c.follow.ensures.step c.follow.ensures.tasks

pub returns-in-Make : goal.returns-in-Make
returns-in-Make g c =
    followed c.args.self.now.facts.now (g.P.Preds.accepts c.args.self.now.preds.now) c.args.self.now.heads.now c.args.task (task.Make c.in-Make.end) c.args.tasks.now
    c.follow-in-Make.result c.to_make.result c.args.state.now c.follow-in-Make.new.tasks c.requires.tasks c.to_make.ensures c.in-Make.is c.follow-in-Make.ensures.step c.follow-in-Make.ensures.tasks
