use Rattle.std.proofs.Common.{◌≡◌, ◌++◌, drop}
use Rattle.std.specs.List.{flat_map}
use Rattle.reload_operands.specs.Operands.{operand_with}
use Rattle.reload_operands.proofs.operands.operands_of.Given as goal

abbrev pub invariant-loop-number : goal.invariant-loop-number
invariant-loop-number l = l.operands ++ flat_map (operand_with l.pattern l.found l.placed l.homed l.homes l.layout) (drop l.number-index l.number-items) ≡ flat_map (operand_with l.pattern l.found l.placed l.homed l.homes l.layout) l.number-items
