use Rattle.std.proofs.Common.{◌≡◌, map, take}
use Rattle.md_tables.proofs.tables.names_of.Given as goal

abbrev pub invariant-loop-constraint : goal.invariant-loop-constraint
invariant-loop-constraint l = l.names ≡ map (λ k. k.name) (take l.constraint-index l.constraints)
