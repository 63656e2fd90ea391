use Rattle.std.proofs.Common.{◌≡◌, ◌++◌, take}
use Rattle.std.specs.List.{flat_map}
use Rattle.law_frame.specs.Frame.{loaded}
use Rattle.frame.proofs.patterns.add_all_loaded.Given as goal

abbrev pub invariant-loop-s : goal.invariant-loop-s
invariant-loop-s l = l.patterns ≡ l.fn.patterns ++ flat_map loaded (take l.s-index l.saved)
