-- What is written and what is left to be written make the whole text.
use Rattle.std.proofs.Common.{◌≡◌, ◌++◌, drop}
use Rattle.rv_text.specs.Lines.{shown_all}
use Rattle.rv_text.proofs.print.print_operands.Given as goal

abbrev pub invariant-loop-operand : goal.invariant-loop-operand
invariant-loop-operand l = l.out.items ++ shown_all l.separator (drop l.operand-index l.operands) l.line ≡ l.initial.out.items ++ shown_all 9 l.operands l.line
