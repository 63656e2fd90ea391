use Rattle.std.proofs.Common.{◌≡◌, ◌++◌, drop}
use Rattle.assign.specs.Frame.{slots_of}
use Rattle.assign.proofs.frame.slots_of.Given as goal

abbrev pub invariant-loop-x : goal.invariant-loop-x
invariant-loop-x l = l.slots ++ slots_of (drop l.x-index l.homes) ≡ slots_of l.homes
