use Rattle.std.proofs.Common.{◌≡◌, ◌++◌, drop}
use Rattle.std.specs.List.{flat_map}
use Rattle.md_tables.specs.Names as spec
use Rattle.md_tables.proofs.names.+push_predicates.Given as goal

abbrev pub invariant-loop-kid : goal.invariant-loop-kid
invariant-loop-kid l = l.names ++ flat_map spec.predicates_in (drop l.kid-index l.kid-items) ≡ l.fn.names ++ spec.predicates_in l.x
