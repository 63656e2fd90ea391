use Rattle.std.proofs.Common.{◌≡◌, take}
use Rattle.pipe_uses.proofs.copies.copied.Given as goal

abbrev pub invariant-loop-way : goal.invariant-loop-way
invariant-loop-way l = l.copies ≡ take l.way-index l.ways
