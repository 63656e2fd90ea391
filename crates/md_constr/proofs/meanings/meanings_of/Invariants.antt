use Rattle.std.proofs.Common.{◌≡◌, ℕ, List, take}
use Rattle.std.specs.List.{find}
use Rattle.std.specs.Option.{option_map}
use Rattle.md_forms.specs.md_tables.Tables.{defines_constraint}
use Rattle.md_attr.specs.Alternatives.{defines}
use Rattle.md_constr.specs.machine.Tables.{meaning_in, definition_admits, entry_admits}
use Rattle.md_constr.proofs.meanings.meanings_of.Given as goal

abbrev pub invariant-loop-entry : goal.invariant-loop-entry
invariant-loop-entry l = (name : List ℕ) → option_map definition_admits (meaning_in l.meanings name) ≡ option_map entry_admits (find (defines defines_constraint name) (take l.entry-index l.forms))
