use Rattle.std.proofs.Common.{take}
use Rattle.rv_unit.specs.machine.Labels.{AreSymbols}
use Rattle.rv_unit.proofs.symbols.addresses_of.Given as goal

abbrev pub invariant-loop-symbol : goal.invariant-loop-symbol
invariant-loop-symbol l = AreSymbols (take l.symbol-index l.symbols) l.addresses
