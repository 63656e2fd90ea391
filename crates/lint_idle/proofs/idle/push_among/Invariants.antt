use Rattle.std.proofs.Common.{◌≡◌, ◌++◌, drop}
use Rattle.lint_idle.specs.Idle.{idle_among}
use Rattle.lint_idle.proofs.idle.push_among.Given as goal

abbrev pub invariant-loop-member : goal.invariant-loop-member
invariant-loop-member l = l.out ++ idle_among l.description l.tried l.operand (drop l.member-index l.members) ≡ l.fn.out ++ idle_among l.description l.tried l.operand l.members
