use Rattle.std.proofs.Common.{◌≡◌, drop}
use Rattle.lint_idle.specs.Idle.{is_idle}
use Rattle.lint_idle.proofs.idle.is_idle.Given as goal

abbrev pub invariant-loop-instance : goal.invariant-loop-instance
invariant-loop-instance l = is_idle l.description (drop l.instance-index l.tried) l.operand l.member ≡ is_idle l.description l.tried l.operand l.member
