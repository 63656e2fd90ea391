use Rattle.std.proofs.Common.{◌≡◌, drop, find}
use Rattle.ask_order.specs.machine.Search.{is_open}
use Rattle.ask_order.proofs.search.first_open.Given as goal

abbrev pub invariant-loop-place : goal.invariant-loop-place
invariant-loop-place l = find (is_open l.known) (drop l.place-index l.places) ≡ find (is_open l.known) l.places
