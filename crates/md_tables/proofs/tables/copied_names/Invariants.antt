use Rattle.std.proofs.Common.{◌≡◌, take}
use Rattle.md_tables.proofs.tables.copied_names.Given as goal

abbrev pub invariant-loop-name : goal.invariant-loop-name
invariant-loop-name l = l.all ≡ take l.name-index l.names
