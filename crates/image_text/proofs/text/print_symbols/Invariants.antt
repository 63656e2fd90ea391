use Rattle.std.proofs.Common.{◌≡◌, ◌++◌, take, flat_map}
use Rattle.image_text.specs.Text.{outside_line}
use Rattle.image_text.proofs.text.print_symbols.Given as goal

abbrev pub invariant-loop-symbol : goal.invariant-loop-symbol
invariant-loop-symbol l = l.out.items ≡ l.initial.out.items ++ flat_map outside_line (take l.symbol-index l.symbols)
