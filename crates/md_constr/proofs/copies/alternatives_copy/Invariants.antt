use Rattle.std.proofs.Common.{◌≡◌, take}
use Rattle.md_constr.proofs.copies.alternatives_copy.Given as goal

abbrev pub invariant-loop-alternative : goal.invariant-loop-alternative
invariant-loop-alternative l = l.copy ≡ take l.alternative-index l.alternatives
