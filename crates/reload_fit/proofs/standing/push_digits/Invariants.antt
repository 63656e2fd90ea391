use Rattle.std.proofs.Common.{◌≡◌, ◌++◌, drop}
use Rattle.reload_fit.specs.Fitting.{digits_among}
use Rattle.reload_fit.proofs.standing.push_digits.Given as goal

abbrev pub invariant-loop-member : goal.invariant-loop-member
invariant-loop-member l = l.digits ++ digits_among l.is_lone l.operands l.x (drop l.member-index l.members) ≡ l.fn.digits ++ digits_among l.is_lone l.operands l.x l.members
