-- What the mnemonics that are left give is what all give.
use Rattle.std.proofs.Common.{◌≡◌, drop, map}
use Rattle.rv_text.specs.Table.{find_row, row_of}
use Rattle.rv_text.proofs.table.find_row.Given as goal

abbrev pub invariant-loop-mnemonic : goal.invariant-loop-mnemonic
invariant-loop-mnemonic l = find_row l.name (map row_of (drop l.mnemonic-index l.mnemonics)) ≡ find_row l.name (map row_of l.mnemonics)
