use Rattle.std.proofs.Common.{◌≡◌, take}
use Rattle.std.specs.List.{filter_map}
use Rattle.md_tables.specs.Predicates.{is_known}
use Rattle.md_tables.specs.Tables as spec
use Rattle.md_tables.proofs.tables.constraints_of.Given as goal

abbrev pub invariant-loop-entry : goal.invariant-loop-entry
invariant-loop-entry l = l.found ≡ filter_map (spec.constraint_of (is_known l.predicates l.accepted)) (take l.entry-index l.entries)
