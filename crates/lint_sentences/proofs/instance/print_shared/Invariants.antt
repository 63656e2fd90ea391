use Rattle.std.proofs.Common.{◌≡◌, ◌++◌, ◌-◌}
use Rattle.lint_sentences.specs.Instance as spec
use Rattle.lint_sentences.specs.Each.{each_from}
use Rattle.lint_sentences.proofs.instance.print_shared.Given as goal

abbrev pub invariant-loop-second : goal.invariant-loop-second
invariant-loop-second l = l.out.items ++ each_from (spec.shared_with l.operands) l.second (30 - l.second) ≡ l.fn.out.items ++ each_from (spec.shared_with l.operands) 0 30
