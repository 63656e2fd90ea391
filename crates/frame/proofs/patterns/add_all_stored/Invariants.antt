use Rattle.std.proofs.Common.{◌≡◌, ◌++◌, take}
use Rattle.std.specs.List.{flat_map}
use Rattle.law_frame.specs.Frame.{stored}
use Rattle.frame.proofs.patterns.add_all_stored.Given as goal

abbrev pub invariant-loop-s : goal.invariant-loop-s
invariant-loop-s l = l.patterns ≡ l.fn.patterns ++ flat_map stored (take l.s-index l.saved)
