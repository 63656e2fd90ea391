-- The words of a function's lines.
use Rattle.std.specs.Prelude.{ℕ, ℤ, pos, ◌-ℤ◌, ◌+◌, ◌*◌, Bool, List, [], ◌∷◌, ◌++◌, Option, Some, None, map, unwrap_or}
use Rattle.long_branches.specs.Branches.{is_long, place}
use Rattle.rtx_tree.specs.declared.machine.SymbolAt.{SymbolAt}
use Rattle.run_memory.specs.Symbols.{symbol_address}
use Rattle.rv_text.specs.declared.line.Line.{Line}
use Rattle.rv_text.specs.declared.line.CodeItem.{CodeItem}
use Rattle.rv_text.specs.declared.line.CodeItem.TheVariants.{Label, Code}
use Rattle.rv_word.specs.Sequence.{line_words}
use Rattle.rv_word.specs.Word.{encode}
use Rattle.rv_word.specs.declared.base.Base.{Base}
use Rattle.rv_word.specs.declared.spelling.Spelling.{Spelling}
use Rattle.rv_unit.specs.Names.{spelling_named}
use Rattle.rv_unit.specs.Layout.{leads_to, pieces_of}

-- a function's lines, its long branches, and the addresses of symbols
pub record Placed : Type 0 where
  pub items : List CodeItem
  pub longs : List Bool
  pub symbols : List SymbolAt

-- where an item begins, in bytes from the function's entry on
abbrev pub byte_place : Placed → ℕ → ℕ
byte_place unit at = 4 * place (pieces_of unit.items) unit.longs at

-- how many bytes behind an item the label stands that it names
abbrev pub further : Placed → ℕ → List ℕ → ℤ
further unit at target =
    pos (byte_place unit (leads_to unit.items target)) -ℤ pos (byte_place unit at)

-- the address of a symbol; where it has none, 0
abbrev pub address_in : List SymbolAt → List ℕ → ℕ
address_in symbols target = unwrap_or (symbol_address symbols target) 0

-- the instructions of a line. What is no line has none
abbrev pub line_bases : Option Spelling → Line → Bool → ℤ → ℕ → List Base
line_bases None line long further address = []
line_bases (Some spelling) line long further address =
    line_words spelling line long further address

-- the instructions of an item
abbrev pub item_bases : Placed → ℕ → CodeItem → List Base
item_bases unit at (Label function uid) = []
item_bases unit at (Code line) = line_bases (spelling_named line.name) line (is_long unit.longs at) (further unit at line.target) (address_in unit.symbols line.target)

-- the instructions of some items, of which the first has a number
abbrev pub bases_from : Placed → ℕ → List CodeItem → List Base
bases_from unit at [] = []
bases_from unit at (item ∷ items) = item_bases unit at item ++ bases_from unit (at + 1) items

-- the words of a function
abbrev pub words_of : Placed → List ℕ
words_of unit = map encode (bases_from unit 0 unit.items)
