use Rattle.std.proofs.Common.{◌≡◌, ◌++◌, drop}
use Rattle.lint_groups.specs.Groups as spec
use Rattle.lint_groups.proofs.group.push_forms.Given as goal

abbrev pub invariant-loop-entry : goal.invariant-loop-entry
invariant-loop-entry l = l.out ++ spec.forms_groups l.form (drop l.entry-index l.forms) ≡ l.fn.out ++ spec.forms_groups 0 l.forms
