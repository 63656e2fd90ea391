use Rattle.std.proofs.Common.{◌≡◌, drop}
use Rattle.std.specs.List.{position_from}
use Rattle.md_emit.specs.Named.{is_named_form}
use Rattle.md_emit.proofs.names.named.Given as goal

abbrev pub invariant-loop-form : goal.invariant-loop-form
invariant-loop-form l = position_from (is_named_form l.name) l.form (drop l.form l.forms) ≡ position_from (is_named_form l.name) l.from (drop l.from l.forms)
