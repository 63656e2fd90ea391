use Rattle.std.proofs.Common.{◌≡◌}
use Rattle.gen_emit.specs.machine.Plans.{AreTasks, outcome, weight}
use Rattle.gen_emit.proofs.plan.Program.finish.Given as goal

abbrev pub invariant-loop-task : goal.invariant-loop-task
invariant-loop-task g l = record {
  are : AreTasks l.self.heads.now l.tasks;
  same : outcome l.self.facts.now (g.P.Preds.accepts l.self.preds.now) l.self.heads.now l.tasks l.state ≡ outcome l.self.facts.now (g.P.Preds.accepts l.self.preds.now) l.self.heads.now l.fn.tasks l.fn.state;
}

abbrev pub decreases-loop-task : goal.decreases-loop-task
decreases-loop-task g l = weight l.self.heads.now l.tasks
