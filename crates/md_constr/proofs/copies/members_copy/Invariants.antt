use Rattle.std.proofs.Common.{◌≡◌, take}
use Rattle.md_constr.proofs.copies.members_copy.Given as goal

abbrev pub invariant-loop-member : goal.invariant-loop-member
invariant-loop-member l = l.copy ≡ take l.member-index l.members
