use Rattle.std.proofs.Common.{◌≡◌, drop}
use Rattle.lint_made.specs.Made as spec
use Rattle.lint_made.proofs.made.whole_operands.Given as goal

-- what is made of the rest from here is what is made of all
abbrev pub invariant-loop-placeholder : goal.invariant-loop-placeholder
invariant-loop-placeholder l =
    spec.whole_behind l.bare l.operands (drop l.placeholder-index l.givers) ≡ spec.whole_behind l.bare l.fn.operands l.givers
