use Rattle.std.proofs.Common.{◌≡◌, max, drop, map}
use Rattle.rtl_chain.specs.Counts.{greatest, next_pseudo_in}
use Rattle.rtl_chain.proofs.counts.+next_pseudo_in.Given as goal

abbrev pub invariant-loop-kid : goal.invariant-loop-kid
invariant-loop-kid l = max l.greatest (greatest (map next_pseudo_in (drop l.kid-index l.kid-items))) ≡ next_pseudo_in l.x
