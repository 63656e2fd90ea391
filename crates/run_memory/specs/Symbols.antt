-- The addresses of symbols: GCC Internals, "Constants" (`symbol_ref`).
use Rattle.std.specs.Prelude.{ℕ, List, [], ◌∷◌, Option, Some, None, if◌then◌else◌}
use Rattle.std.specs.Str.{bytes_eq}
use Rattle.rtx_tree.specs.declared.machine.SymbolAt.{SymbolAt}

-- the address of a symbol: the first that is listed with this name
abbrev pub symbol_address : List SymbolAt → List ℕ → Option ℕ
symbol_address [] name = None
symbol_address (s ∷ symbols) name =
    if bytes_eq s.name name then Some s.address else symbol_address symbols name
