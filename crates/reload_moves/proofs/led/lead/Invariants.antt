use Rattle.std.proofs.Common.{◌≡◌, map, take}
use Rattle.reload_moves.specs.Moved.{is_led_to}
use Rattle.reload_moves.proofs.led.lead.Given as goal

abbrev pub invariant-loop-f : goal.invariant-loop-f
invariant-loop-f l = l.next ≡ map (is_led_to l.fits l.row) (take l.f-index l.fits)
