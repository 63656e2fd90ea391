use Rattle.std.proofs.Common.{◌≡◌, [], drop}
use Rattle.md_dfa.specs.Units.{with_forms}
use Rattle.md_dfa.proofs.units.units_of.Given as goal

abbrev pub invariant-loop-form : goal.invariant-loop-form
invariant-loop-form l = with_forms l.units (drop l.form-index l.forms) ≡ with_forms [] l.forms
