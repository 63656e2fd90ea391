use Rattle.std.proofs.Common.{◌≡◌, drop}
use Rattle.lint_choices.specs.Registers as spec
use Rattle.lint_choices.proofs.registers.registers_apart.Given as goal

-- what is made of the rest from here is what is made of all
abbrev pub invariant-loop-own : goal.invariant-loop-own
invariant-loop-own l = spec.registers_behind l.regs (drop l.own-index l.owns) ≡ spec.registers_apart l.owns
