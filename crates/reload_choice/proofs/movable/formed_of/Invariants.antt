use Rattle.std.proofs.Common.{◌≡◌, map, take}
use Rattle.reload_choice.specs.Movable.{is_formed}
use Rattle.reload_choice.proofs.movable.formed_of.Given as goal

abbrev pub invariant-loop-x : goal.invariant-loop-x
invariant-loop-x l = l.formed ≡ map (is_formed l.given) (take l.x-index l.given.operands)
