use Rattle.std.proofs.Common.{◌≡◌, ◌-◌, drop, length}
use Rattle.rtl_step.specs.Step.{passed}
use Rattle.rtl_step.proofs.step.place_from.Given as goal

abbrev pub invariant-loop-insn : goal.invariant-loop-insn
invariant-loop-insn l = passed (drop l.place l.insns) l.place ≡ passed (drop l.next l.insns) l.next

abbrev pub decreases-loop-insn : goal.decreases-loop-insn
decreases-loop-insn l = length l.insns - l.place
