use Rattle.std.proofs.Common.{◌≡◌, drop, map}
use Rattle.md_iter.specs.Attribute as spec
use Rattle.md_iter.specs.Choice.{chosen_of}
use Rattle.md_iter.proofs.attribute.of_any.Given as goal

abbrev pub invariant-loop-choice : goal.invariant-loop-choice
invariant-loop-choice l = spec.of_any l.definitions l.name (map chosen_of (drop l.choice-index l.choices)) ≡ spec.of_any l.definitions l.name (map chosen_of l.choices)
