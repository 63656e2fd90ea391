use Rattle.std.proofs.Common.{◌≡◌, ◌+◌, map, drop}
use Rattle.sym_state.specs.machine.Places as places
use Rattle.sym_state.specs.Views.{changed_of}
use Rattle.sym_state.proofs.registers.place_of.Given as goal

abbrev pub invariant-loop-at : goal.invariant-loop-at
invariant-loop-at l = places.place_of (map changed_of l.regs) l.reg ≡ l.at + places.place_of (map changed_of (drop l.at l.regs)) l.reg
