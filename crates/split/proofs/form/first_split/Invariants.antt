use Rattle.std.proofs.Common.{◌-◌}
use Rattle.split.proofs.Forms.{NoneBelow}
use Rattle.split.proofs.form.first_split.Given as goal

abbrev pub invariant-loop-from : goal.invariant-loop-from
invariant-loop-from l = NoneBelow l.desc l.pass l.next l.insn l.from

abbrev pub decreases-loop-from : goal.decreases-loop-from
decreases-loop-from l = l.end - l.from
