use Rattle.std.proofs.Common.{◌≡◌, ◌++◌, drop, take}
use Rattle.md_forms.specs.Forms as spec
use Rattle.md_forms.specs.machine.Counts.{Counts}
use Rattle.md_forms.proofs.shown.names_of.Given as goal

abbrev pub invariant-loop-form : goal.invariant-loop-form
invariant-loop-form l = record {
  named : l.names ++ spec.names_behind (take l.form-index l.forms) (drop l.form-index l.forms) ≡ spec.names_of l.forms;
  counts : Counts l.counts (take l.form-index l.forms);
}
