-- Labels and symbols that are found at once, and an item's words by a layout.
use Rattle.std.specs.Prelude.{◌≡◌, ℕ, ℤ, pos, ◌-ℤ◌, ◌+◌, ◌*◌, List, [], ◌∷◌, ◌++◌, slice_index, unwrap_or}
use Rattle.long_branches.specs.Branches.{is_long}
use Rattle.long_branches.specs.declared.piece.Piece.{Piece}
use Rattle.name_places.specs.Places.{place_in}
use Rattle.name_places.specs.declared.places.Places.{Places}
use Rattle.rtx_tree.specs.declared.machine.SymbolAt.{SymbolAt}
use Rattle.run_memory.specs.Symbols.{symbol_address}
use Rattle.rv_text.specs.declared.line.CodeItem.{CodeItem}
use Rattle.rv_text.specs.declared.line.CodeItem.TheVariants.{Label, Code}
use Rattle.rv_word.specs.declared.base.Base.{Base}
use Rattle.rv_unit.specs.Names.{spelling_named}
use Rattle.rv_unit.specs.Layout.{label_at, item_piece}
use Rattle.rv_unit.specs.Words.{line_bases, address_in}
use Rattle.rv_unit.specs.declared.layout.Layout.{Layout}

-- the labels are those of some items
abbrev pub AreLabels : List CodeItem → Places → Type 0
AreLabels items labels = (target : List ℕ) → place_in labels target ≡ label_at target items

-- the item that an item leads to, by the labels that are found
abbrev pub lead_in : Places → CodeItem → ℕ
lead_in labels (Label function uid) = 0
lead_in labels (Code line) = unwrap_or (place_in labels line.target) 0

abbrev pub piece_in : Places → CodeItem → Piece
piece_in labels item = item_piece item (lead_in labels item)

-- under a name the address of the first symbol with it is found
abbrev pub AreSymbols : List SymbolAt → Places → Type 0
AreSymbols symbols addresses =
    (name : List ℕ) → place_in addresses name ≡ symbol_address symbols name

-- how many bytes behind an item the item stands that it leads to
abbrev pub further_in : Layout → ℕ → ℤ
further_in layout at =
    pos (4 * slice_index layout.places (slice_index layout.leads at)) -ℤ pos (4 * slice_index layout.places at)

-- the instructions of an item
abbrev pub bases_in : Layout → List SymbolAt → ℕ → CodeItem → List Base
bases_in layout symbols at (Label function uid) = []
bases_in layout symbols at (Code line) = line_bases (spelling_named line.name) line (is_long layout.longs at) (further_in layout at) (address_in symbols line.target)

abbrev pub bases_in_from : Layout → List SymbolAt → ℕ → List CodeItem → List Base
bases_in_from layout symbols at [] = []
bases_in_from layout symbols at (item ∷ items) =
    bases_in layout symbols at item ++ bases_in_from layout symbols (at + 1) items
