use Rattle.std.proofs.Common.{◌≡◌, [], drop}
use Rattle.lint_made.specs.Made as spec
use Rattle.lint_made.proofs.made.bare_operands.Given as goal

-- what is made of the rest from here is what is made of all
abbrev pub invariant-loop-at : goal.invariant-loop-at
invariant-loop-at l = spec.bare_operands l.candidates l.picks l.regs l.operands l.at (drop l.at l.givers) ≡ spec.bare_operands l.candidates l.picks l.regs [] 0 l.givers
