use Rattle.region_jobs.proofs.RegionLaws.{ArePlain}
use Rattle.region_jobs.proofs.region.region_length.Given as goal

abbrev pub invariant-loop-at : goal.invariant-loop-at
invariant-loop-at l = ArePlain l.insns l.at
