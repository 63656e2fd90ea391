use Rattle.std.proofs.Common.{◌≡◌, drop}
use Rattle.sym_insns.specs.Shape.{bad_from}
use Rattle.sym_insns.proofs.shape.bad_insn.Given as goal

abbrev pub invariant-loop-i : goal.invariant-loop-i
invariant-loop-i l = bad_from l.i (drop l.i l.insns) ≡ bad_from 0 l.insns
