use Rattle.std.proofs.Common.{◌≡◌, map, take}
use Rattle.reload_homes.specs.FrameRefs.{framed}
use Rattle.reload_homes.proofs.frame_refs.+with_frame.Given as goal

abbrev pub invariant-loop-kid : goal.invariant-loop-kid
invariant-loop-kid l = l.kids ≡ map (framed l.size) (take l.kid-index l.kid-items)
