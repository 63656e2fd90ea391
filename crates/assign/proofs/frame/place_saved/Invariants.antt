use Rattle.std.proofs.Common.{◌≡◌, ◌*◌, ◌≤◌, ◌++◌, drop, length}
use Rattle.assign.specs.Frame.{saved_places}
use Rattle.assign.proofs.frame.place_saved.Given as goal

abbrev pub invariant-loop-reg : goal.invariant-loop-reg
invariant-loop-reg l = record {
  room : 8 * length (drop l.reg-index l.regs) ≤ l.offset;
  places : l.places ++ saved_places l.offset (drop l.reg-index l.regs) ≡ saved_places l.top l.regs;
}
