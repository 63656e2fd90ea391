use Rattle.std.proofs.Common.{◌≡◌, ◌++◌, drop, map}
use Rattle.md_iter.specs.Angles as spec
use Rattle.md_iter.specs.Attribute.{filling}
use Rattle.md_iter.specs.Choice.{chosen_of}
use Rattle.md_iter.specs.machine.Steps as steps
use Rattle.md_iter.proofs.angles.filled.Given as goal

abbrev pub invariant-loop-byte : goal.invariant-loop-byte
invariant-loop-byte l = l.out.items ++ spec.filled_from (filling l.definitions (map chosen_of l.choices)) (steps.begun l.name) (drop l.byte-index l.text) ≡ spec.filled (filling l.definitions (map chosen_of l.choices)) l.text
