-- What is left to be put in makes the whole of it.
use Rattle.std.proofs.Common.{◌≡◌, drop}
use Rattle.rv_text.specs.Lines.{parts_view, filled, bare}
use Rattle.rv_text.proofs.line.Line.named.Given as goal

abbrev pub invariant-loop-operand : goal.invariant-loop-operand
invariant-loop-operand l = filled (drop l.operand-index l.operands) l.self (parts_view l.parts) ≡ filled l.operands l.self (bare l.self.name)
