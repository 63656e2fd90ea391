-- The symbols that are left give what all give.
use Rattle.std.proofs.Common.{◌≡◌, drop}
use Rattle.run_memory.specs.Symbols.{symbol_address}
use Rattle.run_memory.proofs.symbols.symbol_address.Given as goal

abbrev pub invariant-loop-symbol : goal.invariant-loop-symbol
invariant-loop-symbol l = symbol_address (drop l.symbol-index l.symbol-items) l.name ≡ symbol_address l.symbols l.name
