use Rattle.std.proofs.Common.{◌≡◌, drop}
use Rattle.md_desc.specs.md_attr.Alternatives.{definition_of}
use Rattle.md_desc.specs.md_forms.md_tables.Tables.{defines_constraint}
use Rattle.lint_idle.proofs.admits.definition_of.Given as goal

abbrev pub invariant-loop-entry : goal.invariant-loop-entry
invariant-loop-entry l = definition_of defines_constraint (drop l.entry-index l.forms) l.name ≡ definition_of defines_constraint l.forms l.name
