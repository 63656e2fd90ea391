use Rattle.std.proofs.Common.{◌≡◌, ℕ, List, take}
use Rattle.std.specs.List.{find}
use Rattle.std.specs.Option.{option_map}
use Rattle.md_attr.specs.machine.Tables.{definition_in}
use Rattle.md_forms.specs.md_tables.Tables.{defines_attribute}
use Rattle.md_attr.specs.Alternatives.{defines}
use Rattle.md_attr.specs.Values.{default_by}
use Rattle.md_attr.proofs.defaults.defaults_of.Given as goal

abbrev pub invariant-loop-entry : goal.invariant-loop-entry
invariant-loop-entry l = (name : List ℕ) → definition_in l.defaults name ≡ option_map default_by (find (defines defines_attribute name) (take l.entry-index l.forms))
