use Rattle.std.proofs.Common.{◌≤◌, length, take, ap, arith}
use Rattle.schedule.proofs.JobLaws.{upto_long, upto_all, are_placeable}
use Rattle.schedule.proofs.jobs.jobs_of.Goals as goal

pub asks_of-requires : goal.asks_of-requires
asks_of-requires c =
    let l = c.loop-place in
    let long = upto_long c.args.desc.now c.args.pipe.now (take l.place c.args.insns.now) l.jobs l.latencies l.invariant in
    let same = ap length c.as_slice.ensures.value in
    omega (arith, long, same)

pub returns-clause-placeable : goal.returns-clause-placeable
returns-clause-placeable c =
    let a = c.args in
    let l = c.loop-place in
    let past : length a.insns.now ≤ l.place = omega (arith, c.loop-place-test.false) in
    are_placeable a.desc.now a.pipe.now c.requires.lawful a.insns.now c.requires.few l.jobs
    (upto_all a.desc.now a.pipe.now a.insns.now l.place l.jobs l.latencies past l.invariant)
