-- The world in which a function and its code are tried: where its symbols are, and what its calls
-- do.
use Rattle.std.specs.Prelude.{ℕ, ◌+◌, ◌*◌, List, [], ◌∷◌, ◌++◌, length, replicate, is_some, if◌then◌else◌}
use Rattle.std.specs.List.{flat_map}
use Rattle.rtx_tree.specs.declared.code.Code.{Code}
use Rattle.rtx_tree.specs.declared.code.Code.TheVariants.{SymbolRef}
use Rattle.rtx_tree.specs.declared.tree.Rtx.{Rtx}
use Rattle.rtx_tree.specs.declared.tree.Rtx.TheOpen.{Rtx-F}
use Rattle.rtx_tree.specs.declared.tree.Rtx.TheFolds.{fold-Rtx}
use Rattle.rtx_tree.specs.declared.function.Insn.{Insn}
use Rattle.rtx_tree.specs.declared.function.Function.{Function}
use Rattle.rtx_tree.specs.declared.machine.SymbolAt.{SymbolAt}
use Rattle.rtx_tree.specs.declared.machine.Reply.{Reply}
use Rattle.rtx_tree.specs.declared.machine.World.{World}
use Rattle.run_memory.specs.Symbols.{symbol_address}

-- ---- symbols (GCC Internals, "Constants": `symbol_ref`)

abbrev pub symbol_here : Code → List ℕ → List (List ℕ)
symbol_here SymbolRef name = name ∷ []
symbol_here _ name = []

abbrev pub symbols_step : Rtx-F (List (List ℕ)) → List (List ℕ)
symbols_step x = symbol_here x.code x.name ++ flat_map (λ names. names) x.kids

-- the symbols that stand in a tree, in the order of its text
abbrev pub symbols_in : Rtx → List (List ℕ)
symbols_in = fold-Rtx (List (List ℕ)) symbols_step

-- the symbols that stand in a chain, in the order of its text
abbrev pub symbols_used : List Insn → List (List ℕ)
symbols_used insns = flat_map (λ i. symbols_in i.pattern) insns

-- the address of the symbol at a place among the symbols of a function
abbrev pub address_at : ℕ → ℕ
address_at place = 2097152 + 4096 * place

-- symbols with one more behind them, unless it is one of them
abbrev pub with_symbol : List SymbolAt → List ℕ → List SymbolAt
with_symbol symbols name = if is_some (symbol_address symbols name) then symbols else symbols ++ record { name = name; address = address_at (length symbols) } ∷ []

abbrev pub with_symbols : List SymbolAt → List (List ℕ) → List SymbolAt
with_symbols symbols [] = symbols
with_symbols symbols (name ∷ names) = with_symbols (with_symbol symbols name) names

-- the symbols of a chain, each once, in the order of their first use
abbrev pub symbols_of : List Insn → List SymbolAt
symbols_of insns = with_symbols [] (symbols_used insns)

-- ---- calls

-- the reply to each call: zero, and nothing is written
abbrev pub zero_reply : Reply
zero_reply = record { value = 0; writes = [] }

abbrev pub world_of : Function → ℕ → World
world_of f count = record { symbols = symbols_of f.insns; replies = replicate count zero_reply }
