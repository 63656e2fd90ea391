use Rattle.std.proofs.Common.{◌≡◌, ◌+◌, ◌<◌, ℕ, ltb, take}
use Rattle.std.specs.List.{list_all}
use Rattle.md_tables.specs.Predicates as spec
use Rattle.md_tables.specs.machine.Depths.{below}
use Rattle.md_tables.proofs.predicates.depth_below_all.Given as goal

abbrev pub invariant-loop-name : goal.invariant-loop-name
invariant-loop-name l = (n : ℕ) → n < l.rounds → ltb l.deepest (n + 1) ≡ list_all (spec.is_known l.predicates (below n l.depths)) (take l.name-index l.names)
