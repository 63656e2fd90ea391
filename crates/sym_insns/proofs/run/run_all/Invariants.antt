use Rattle.std.proofs.Common.{◌≡◌, drop}
use Rattle.sym_state.specs.State.{start}
use Rattle.sym_state.specs.Views.{state_of}
use Rattle.sym_insns.specs.Run.{run_from}
use Rattle.sym_insns.proofs.run.run_all.Given as goal

abbrev pub invariant-loop-i : goal.invariant-loop-i
invariant-loop-i l = run_from l.i (drop l.i l.insns) (state_of l.state) ≡ run_from 0 l.insns start
