use Rattle.std.proofs.Common.{◌≡◌, ◌++◌, ◌-◌}
use Rattle.lint_sentences.specs.Instance as spec
use Rattle.lint_sentences.specs.Each.{each_from}
use Rattle.lint_sentences.proofs.instance.print_each_operand.Given as goal

abbrev pub invariant-loop-number : goal.invariant-loop-number
invariant-loop-number l = l.out.items ++ each_from (spec.operand_text_at l.operands) l.number (30 - l.number) ≡ l.fn.out.items ++ each_from (spec.operand_text_at l.operands) 0 30
