use Rattle.std.proofs.Common.{◌≡◌, take, map}
use Rattle.md_iter.specs.Choice.{chosen_of}
use Rattle.md_iter.specs.Substitution.{conditions_of}
use Rattle.md_iter.proofs.substitution.conditions_of.Given as goal

abbrev pub invariant-loop-choice : goal.invariant-loop-choice
invariant-loop-choice l = l.conditions ≡ conditions_of (map chosen_of (take l.choice-index l.choices))
