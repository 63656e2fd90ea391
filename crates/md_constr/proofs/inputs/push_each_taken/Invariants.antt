use Rattle.std.proofs.Common.{◌≡◌, ◌++◌, drop}
use Rattle.std.specs.List.{flat_map}
use Rattle.md_constr.specs.Inputs as spec
use Rattle.md_constr.proofs.inputs.push_each_taken.Given as goal

abbrev pub invariant-loop-part : goal.invariant-loop-part
invariant-loop-part l = l.numbers ++ flat_map spec.taken_in (drop l.part-index l.parts) ≡ l.fn.numbers ++ flat_map spec.taken_in l.parts
