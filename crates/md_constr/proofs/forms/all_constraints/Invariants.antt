use Rattle.std.proofs.Common.{◌≡◌, map, take}
use Rattle.md_constr.specs.machine.Tables.{constraints_of}
use Rattle.md_constr.proofs.forms.all_constraints.Given as goal

abbrev pub invariant-loop-entry : goal.invariant-loop-entry
invariant-loop-entry l = l.all ≡ map constraints_of (take l.entry-index l.forms)
