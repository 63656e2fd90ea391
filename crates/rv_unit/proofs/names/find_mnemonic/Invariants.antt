-- What the mnemonics that are left give is what all give.
use Rattle.std.proofs.Common.{◌≡◌, drop}
use Rattle.rv_unit.specs.Names.{find_mnemonic}
use Rattle.rv_unit.proofs.names.find_mnemonic.Given as goal

abbrev pub invariant-loop-mnemonic : goal.invariant-loop-mnemonic
invariant-loop-mnemonic l = find_mnemonic l.name (drop l.mnemonic-index l.mnemonics) ≡ find_mnemonic l.name l.mnemonics
