use Rattle.std.proofs.Common.{◌≡◌, ◌*◌, ◌≤◌, ◌++◌, drop, length}
use Rattle.assign.specs.Frame.{slot_places}
use Rattle.assign.proofs.frame.place_slots.Given as goal

abbrev pub invariant-loop-pseudo : goal.invariant-loop-pseudo
invariant-loop-pseudo l = record {
  room : 8 * length (drop l.pseudo-index l.pseudos) ≤ l.offset;
  places : l.places ++ slot_places l.offset (drop l.pseudo-index l.pseudos) ≡ slot_places l.top l.pseudos;
}
