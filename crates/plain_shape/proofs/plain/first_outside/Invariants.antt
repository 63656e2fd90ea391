use Rattle.std.proofs.Common.{◌≡◌, drop, find}
use Rattle.plain_shape.specs.Plain.{is_outside}
use Rattle.plain_shape.proofs.plain.first_outside.Given as goal

abbrev pub invariant-loop-insn : goal.invariant-loop-insn
invariant-loop-insn l = find is_outside (drop l.insn-index l.insn-items) ≡ find is_outside l.f.insns
