use Rattle.std.proofs.Common.{◌≡◌, map}
use Rattle.md_forms.specs.Forms as spec
use Rattle.md_forms.proofs.forms.all_finished.Given as goal

abbrev pub invariant-loop-entry : goal.invariant-loop-entry
invariant-loop-entry l = l.forms ≡ map (spec.finished l.tables) l.yielded
