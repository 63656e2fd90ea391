use Rattle.std.proofs.Common.{take}
use Rattle.schedule.proofs.JobLaws.{AreJobsUpto}
use Rattle.schedule.proofs.jobs.jobs_of.Given as goal

abbrev pub invariant-loop-place : goal.invariant-loop-place
invariant-loop-place l = AreJobsUpto l.desc l.pipe (take l.place l.insns) l.jobs l.latencies
