use Rattle.std.proofs.Common.{◌≡◌, length}
use Rattle.gen_emit.specs.machine.Layout.{AreStarts}
use Rattle.gen_emit.proofs.layout.starts_of.Given as goal

abbrev pub invariant-loop-at : goal.invariant-loop-at
invariant-loop-at l = record { are : AreStarts l.heads l.starts; long : length l.starts ≡ l.at }
