use Rattle.std.proofs.Common.{◌≡◌, drop}
use Rattle.md_tables.specs.md_text.Lists.{each}
use Rattle.md_text.proofs.Each.{with_front}
use Rattle.md_forms.specs.Checks as spec
use Rattle.md_forms.proofs.checks.constraints_of.Given as goal

abbrev pub invariant-loop-text : goal.invariant-loop-text
invariant-loop-text l = with_front l.constraints (each (spec.constraint_in l.names) (drop l.text-index l.texts)) ≡ each (spec.constraint_in l.names) l.texts
