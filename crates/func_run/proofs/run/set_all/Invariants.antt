use Rattle.std.proofs.Common.{◌≡◌, drop}
use Rattle.func_run.specs.Run.{with_all}
use Rattle.func_run.proofs.run.set_all.Given as goal

abbrev pub invariant-loop-entry : goal.invariant-loop-entry
invariant-loop-entry l = with_all (drop l.entry-index l.entries) l.regs ≡ with_all l.entries l.initial.regs
