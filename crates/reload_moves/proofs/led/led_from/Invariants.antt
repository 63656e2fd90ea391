use Rattle.std.proofs.Common.{◌≡◌, drop}
use Rattle.reload_moves.specs.Moved.{rounds, lead, led_from}
use Rattle.reload_moves.proofs.led.led_from.Given as goal

abbrev pub invariant-loop-f : goal.invariant-loop-f
invariant-loop-f l = rounds (lead l.fits) (drop l.f-index l.fits) l.row ≡ led_from l.fits l.place
