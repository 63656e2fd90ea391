use Rattle.std.proofs.Common.{◌≡◌, length}
use Rattle.c_cond.specs.machine.Steps.{next}
use Rattle.c_cond.proofs.parser.Parser.step.Given as goal

abbrev pub invariant-loop-goal : goal.invariant-loop-goal
invariant-loop-goal l = next l.dialect l.constants l.token l.self.code l.self.goals ≡ next l.dialect l.constants l.token l.initial.self.code l.initial.self.goals

abbrev pub decreases-loop-goal : goal.decreases-loop-goal
decreases-loop-goal l = length l.self.goals
