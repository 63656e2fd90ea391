use Rattle.std.proofs.Common.{◌≡◌, take, reverse}
use Rattle.c_cond.specs.machine.Front.{is_taken}
use Rattle.c_cond.proofs.goal.Goals.is_taken.Given as goal

abbrev pub invariant-loop-place : goal.invariant-loop-place
invariant-loop-place l = is_taken l.dialect l.constants l.token (reverse (take l.place l.goals)) ≡ is_taken l.dialect l.constants l.token l.self
