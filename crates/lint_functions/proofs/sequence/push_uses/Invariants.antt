use Rattle.std.proofs.Common.{◌≡◌, ◌++◌, map, drop}
use Rattle.lint_functions.specs.Functions as spec
use Rattle.lint_functions.proofs.sequence.push_uses.Given as goal

abbrev pub invariant-loop-reg : goal.invariant-loop-reg
invariant-loop-reg l = l.out ++ map (spec.use_of) (drop l.reg-index l.regs) ≡ l.fn.out ++ map (spec.use_of) l.regs
