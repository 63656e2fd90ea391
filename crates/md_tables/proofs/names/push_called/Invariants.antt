use Rattle.std.proofs.Common.{◌≡◌, ◌++◌, drop}
use Rattle.std.specs.List.{flat_map}
use Rattle.md_tables.specs.Names as spec
use Rattle.md_tables.proofs.names.push_called.Given as goal

abbrev pub invariant-loop-head : goal.invariant-loop-head
invariant-loop-head l = l.names ++ flat_map spec.predicate_of_head (drop l.head-index l.heads) ≡ l.fn.names ++ flat_map spec.predicate_of_head l.heads
