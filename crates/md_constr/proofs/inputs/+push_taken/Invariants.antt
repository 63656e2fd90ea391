use Rattle.std.proofs.Common.{◌≡◌, ◌++◌, drop}
use Rattle.std.specs.List.{flat_map}
use Rattle.md_constr.specs.Inputs as spec
use Rattle.md_constr.proofs.inputs.+push_taken.Given as goal

abbrev pub invariant-loop-kid : goal.invariant-loop-kid
invariant-loop-kid l = l.numbers ++ flat_map spec.taken_in (drop l.kid-index l.kid-items) ≡ l.fn.numbers ++ spec.taken_in l.x
