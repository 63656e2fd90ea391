use Rattle.std.proofs.Common.{◌≡◌, ◌+◌, ◌<◌, ℕ, map, take, length}
use Rattle.md_tables.specs.Predicates as spec
use Rattle.md_tables.specs.machine.Depths.{below}
use Rattle.md_tables.proofs.predicates.round.Given as goal

abbrev pub invariant-loop-d : goal.invariant-loop-d
invariant-loop-d l = record {
  count : length l.next ≡ l.d-index;
  sound : (n : ℕ) → n < l.rounds → below (n + 1) l.next ≡ map (spec.is_sound l.predicates (below n l.depths)) (take l.d-index l.predicates);
}
