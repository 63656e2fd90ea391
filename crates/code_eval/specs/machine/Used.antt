-- Symbols and their names.
use Rattle.std.specs.Prelude.{◌≡◌, ℕ, List, is_some}
use Rattle.rtl_func.specs.Names.{is_among}
use Rattle.run_memory.specs.Symbols.{symbol_address}
use Rattle.code_eval.specs.declared.world.UsedSymbols.{UsedSymbols}

-- the names are those of the symbols
abbrev pub AreNamed : UsedSymbols → Type 0
AreNamed used =
    (name : List ℕ) → is_among used.names name ≡ is_some (symbol_address used.symbols name)
