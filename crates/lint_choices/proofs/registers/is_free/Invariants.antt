use Rattle.std.proofs.Common.{◌≡◌, drop}
use Rattle.lint_choices.specs.Registers as spec
use Rattle.lint_choices.proofs.registers.is_free.Given as goal

-- what is left has the answer
abbrev pub invariant-loop-other : goal.invariant-loop-other
invariant-loop-other l = spec.is_free (drop l.other-index l.given) l.reg ≡ spec.is_free l.given l.reg
