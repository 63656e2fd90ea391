use Rattle.std.proofs.Common.{◌≡◌, length}
use Rattle.c_cond.specs.machine.Steps.{finish}
use Rattle.c_cond.proofs.parser.Parser.finish.Given as goal

abbrev pub invariant-loop-goal : goal.invariant-loop-goal
invariant-loop-goal l = finish l.self.code l.self.goals ≡ finish l.initial.self.code l.initial.self.goals

abbrev pub decreases-loop-goal : goal.decreases-loop-goal
decreases-loop-goal l = length l.self.goals
