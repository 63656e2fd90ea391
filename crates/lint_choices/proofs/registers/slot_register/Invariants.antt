use Rattle.std.proofs.Common.{◌≡◌, drop}
use Rattle.std.specs.List.{find}
use Rattle.lint_choices.specs.Registers as spec
use Rattle.lint_choices.proofs.registers.slot_register.Given as goal

-- what is left has the answer
abbrev pub invariant-loop-reg : goal.invariant-loop-reg
invariant-loop-reg l = find (spec.is_free l.given) (drop l.reg-index l.own) ≡ find (spec.is_free l.given) l.own
