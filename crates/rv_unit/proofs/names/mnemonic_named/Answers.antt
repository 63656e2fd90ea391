-- The mnemonics that are searched are all.
use Rattle.rv_unit.specs.Names.{mnemonic_named}
use Rattle.rv_unit.proofs.names.mnemonic_named.Goals as goal

pub returns : goal.returns
unfolding mnemonic_named
returns c = c.find_mnemonic.ensures
