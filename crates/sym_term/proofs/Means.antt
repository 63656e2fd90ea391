-- The laws that the contracts name.
use Rattle.term_cuts.proofs.term_mean.NormalLaws.{mean-normal, mean-built}
use Rattle.term_cuts.proofs.term_mean.NormalWidths.{width-built}
use Rattle.term_cuts.proofs.term_mean.SumLaws.{mean-summed}
use Rattle.term_cuts.proofs.term_mean.Widths.{width-summed}
use Rattle.term_cuts.proofs.term_mean.ComparedLaws.{mean-compared, mean-low_bits, width-low_bits}
use Rattle.sym_term.proofs.Steps.{same-is}

pub ruleset normal_means = (mean-normal)

-- what a maker makes
pub ruleset built_means = (mean-built, width-built)

pub ruleset summed_means = (mean-summed, width-summed)

pub ruleset compared_means = (mean-compared)

pub ruleset cut_means = (mean-low_bits, width-low_bits)

-- terms that are the same
pub ruleset same_means = (same-is)
