use Rattle.std.proofs.Common.{◌≡◌, map, drop}
use Rattle.sym_state.specs.Registers as spec
use Rattle.sym_state.specs.Views.{changed_of}
use Rattle.sym_state.proofs.registers.held.Given as goal

abbrev pub invariant-loop-changed : goal.invariant-loop-changed
invariant-loop-changed l = spec.held (map changed_of (drop l.changed-index l.regs)) l.reg ≡ spec.held (map changed_of l.regs) l.reg
