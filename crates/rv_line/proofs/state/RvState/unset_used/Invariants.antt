-- What is left to be unset makes the whole of it.
use Rattle.std.proofs.Common.{◌≡◌}
use Rattle.rv_line.specs.Run.{left_from}
use Rattle.rv_line.proofs.Left.{done}
use Rattle.rv_line.proofs.state.RvState.unset_used.Given as goal

abbrev pub invariant-loop-reg : goal.invariant-loop-reg
invariant-loop-reg l = record {
  left : done l.reg l.self.regs ≡ left_from 0 l.initial.self.regs;
  entry : l.self.entry_ra ≡ l.initial.self.entry_ra;
  memory : l.self.memory ≡ l.initial.self.memory;
}
