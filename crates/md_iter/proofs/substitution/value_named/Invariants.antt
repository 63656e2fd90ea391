use Rattle.std.proofs.Common.{◌≡◌, drop, map}
use Rattle.md_iter.specs.Choice.{chosen_of}
use Rattle.md_iter.specs.Substitution as spec
use Rattle.md_iter.proofs.substitution.value_named.Given as goal

abbrev pub invariant-loop-choice : goal.invariant-loop-choice
invariant-loop-choice l = spec.value_named (map chosen_of (drop l.choice-index l.choices)) l.kind l.name ≡ spec.value_named (map chosen_of l.choices) l.kind l.name
