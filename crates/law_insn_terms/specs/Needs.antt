-- When what instructions need is there: a register has so many known bits, memory has the bytes of
-- an access that is aligned, a divisor is not 0, and a symbol has an address, each as they were
-- before the first instruction.
use Rattle.std.specs.Prelude.{ℕ, ◌==◌, not, Bool, false, if◌then◌else◌, List, Option, Some, None, is_some}
use Rattle.std.specs.List.{list_all}
use Rattle.bits64.specs.declared.Width.{Width}
use Rattle.rtx_tree.specs.declared.machine.SymbolAt.{SymbolAt}
use Rattle.rtx_tree.specs.declared.memories.MemByte.{MemByte}
use Rattle.run_memory.specs.RunMemory.{load}
use Rattle.run_memory.specs.Symbols.{symbol_address}
use Rattle.term_mean.specs.Meaning.{Valuation, mean}
use Rattle.sym_insns.specs.sym_state.State.{Need, Register, Lost, Access, Divisor, Symbol}
use Rattle.sym_insns.specs.Value.{Made}

-- what there is before the first instruction or line: addresses of symbols, what is read of a
-- register in a width, and memory
pub record First : Type 0 where
  pub symbols : List SymbolAt
  pub reads : ℕ → Width → Option ℕ
  pub memory : List MemByte

abbrev pub is_met : Valuation → First → Need → Bool
is_met v f (Register reg w) = is_some (f.reads reg w)
is_met v f (Lost reg w) = false
is_met v f (Access address w) = is_some (load w f.memory (mean v address))
is_met v f (Divisor term) = not (mean v term == 0)
is_met v f (Symbol name) = is_some (symbol_address f.symbols name)

abbrev pub are_met : Valuation → First → List Need → Bool
are_met v f needs = list_all (is_met v f) needs

-- the number of what is made, where its needs are met
abbrev pub worth : Valuation → First → Made → Option ℕ
worth v f made = if are_met v f made.needs then Some (mean v made.term) else None
