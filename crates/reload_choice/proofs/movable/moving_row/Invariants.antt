use Rattle.std.proofs.Common.{◌≡◌, map, take}
use Rattle.reload_fit.specs.Fitting.{asks_by}
use Rattle.reload_choice.specs.Movable.{part_may_move}
use Rattle.reload_choice.proofs.movable.moving_row.Given as goal

abbrev pub invariant-loop-p : goal.invariant-loop-p
invariant-loop-p l = l.row ≡ map (part_may_move (asks_by l.asked.desc.now l.asked.form l.asked.constraints.now l.asked.alternative) l.asked.operands.now l.fits l.formed) (take l.p-index l.parts)
