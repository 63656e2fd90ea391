use Rattle.std.proofs.Common.{◌≡◌, ◌≤◌, min, length, arith}
use Rattle.rtx_tree.specs.Limit.{most_scheduled}
use Rattle.region_jobs.proofs.RegionLaws.{ends}
use Rattle.region_jobs.proofs.region.region_length.Goals as goal

pub returns-clause-length : goal.returns-clause-length
returns-clause-length c =
    let insns = c.args.insns.now in
    let most = c.min-most.result in
    let past : most ≤ c.loop-at.at = omega arith in
    let is : most ≡ min most_scheduled (length insns) = omega arith in
    ends insns c.loop-at.at most c.loop-at.invariant past is
