-- The laws that the contracts name.
use Rattle.term_cuts.proofs.term_mean.RelationLaws.{mean-related}
use Rattle.term_cuts.proofs.term_mean.LessLaws.{less_test-none, less_test-step}
use Rattle.term_zero.proofs.RoundLaws.{equals_zero-enough}
use Rattle.term_zero.proofs.DepthLaws.{less_than-enough}

pub ruleset related_means = (mean-related)

-- one round of a comparison
pub ruleset less_rounds = (less_test-none, less_test-step)

-- more rounds change nothing
pub ruleset zero_ends = (equals_zero-enough)

pub ruleset less_ends = (less_than-enough)
