use Rattle.std.proofs.Common.{◌-◌}
use Rattle.split.proofs.Running.{Progress}
use Rattle.split.proofs.pass.+split_run.Given as goal

abbrev pub decreases-split_run : goal.decreases-split_run
decreases-split_run l = 8 - l.depth

abbrev pub invariant-loop-left : goal.invariant-loop-left
invariant-loop-left l = Progress l.fn.desc l.fn.pass l.fn.count l.fn.depth l.fn.chain l.fn.place l.chain l.at l.left

abbrev pub decreases-loop-left : goal.decreases-loop-left
decreases-loop-left l = l.left
