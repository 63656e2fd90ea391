use Rattle.std.proofs.Common.{◌≡◌, take}
use Rattle.std.specs.List.{filter_map}
use Rattle.md_dfa.specs.Reservations.{reservation_in}
use Rattle.md_dfa.proofs.reservation.reservations_of.Given as goal

abbrev pub invariant-loop-form : goal.invariant-loop-form
invariant-loop-form l = l.all ≡ filter_map (reservation_in l.units) (take l.form-index l.forms)
