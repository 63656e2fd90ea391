use Rattle.std.proofs.Common.{◌≡◌, take}
use Rattle.std.specs.List.{filter_map}
use Rattle.md_tables.specs.Tables as spec
use Rattle.md_tables.proofs.tables.attributes_of.Given as goal

abbrev pub invariant-loop-entry : goal.invariant-loop-entry
invariant-loop-entry l = l.found ≡ filter_map spec.attribute_of (take l.entry-index l.entries)
