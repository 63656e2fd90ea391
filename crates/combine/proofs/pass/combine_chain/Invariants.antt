-- Steps led to the function as it is, and no pair can be combined whose second stands in front of
-- the place.
use Rattle.std.proofs.Common.{ℕ, length}
use Rattle.combine.specs.Combine.{NoneBefore, Steps}
use Rattle.combine.proofs.pass.combine_chain.Given as goal

abbrev pub invariant-loop-pair : goal.invariant-loop-pair
invariant-loop-pair l = record {
  reached : (n : ℕ) × Steps l.desc n l.fn.chain l.chain;
  none : NoneBefore l.desc l.chain l.from;
}

abbrev pub decreases-loop-pair : goal.decreases-loop-pair
decreases-loop-pair l = length l.chain.insns
