use Rattle.std.proofs.Common.{◌≡◌, map, take}
use Rattle.md_attr.specs.machine.Tables.{settings_of}
use Rattle.md_attr.proofs.settings.all_settings.Given as goal

abbrev pub invariant-loop-entry : goal.invariant-loop-entry
invariant-loop-entry l = l.all ≡ map settings_of (take l.entry-index l.forms)
