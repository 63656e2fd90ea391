use Rattle.std.proofs.Common.{◌≡◌, take}
use Rattle.rv_image.proofs.units.copy_of.Given as goal

abbrev pub invariant-loop-symbol : goal.invariant-loop-symbol
invariant-loop-symbol l = l.copy ≡ take l.symbol-index l.symbols
