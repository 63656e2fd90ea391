use Rattle.std.proofs.Common.{◌≡◌, take}
use Rattle.md_constr.proofs.copies.constraints_copy.Given as goal

abbrev pub invariant-loop-constraint : goal.invariant-loop-constraint
invariant-loop-constraint l = l.copy ≡ take l.constraint-index l.constraints
