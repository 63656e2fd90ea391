use Rattle.std.proofs.Common.{◌≡◌, take}
use Rattle.func_run.specs.Run.{values_of}
use Rattle.func_run.proofs.run.values_of.Given as goal

abbrev pub invariant-loop-number : goal.invariant-loop-number
invariant-loop-number l = l.values ≡ values_of l.regs (take l.number-index l.numbers)
