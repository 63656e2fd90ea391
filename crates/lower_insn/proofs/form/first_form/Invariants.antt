use Rattle.std.proofs.Common.{◌≡◌, ◌-◌, ◌≤◌, length}
use Rattle.lower_insn.specs.Plan.{first_form}
use Rattle.lower_insn.proofs.First.{first_from}
use Rattle.lower_insn.proofs.form.first_form.Given as goal

abbrev pub invariant-loop-form : goal.invariant-loop-form
invariant-loop-form l = record {
  within : l.from ≤ length l.desc;
  same : first_from l.desc l.name l.operands l.from ≡ first_form l.desc l.name l.operands;
}

abbrev pub decreases-loop-form : goal.decreases-loop-form
decreases-loop-form l = length l.desc - l.from
