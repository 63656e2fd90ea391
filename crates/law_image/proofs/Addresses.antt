-- The addresses of an image's symbols.
use Rattle.std.proofs.Common.{◌≡◌, ℕ, suc, ◌+◌, ◌*◌, ◌%◌, ◌^◌, ◌<◌, ◌≤◌, Bool, true, false, if◌then◌else◌, List, [], ◌∷◌, ◌++◌, length, Option, Some, None, subst, arith, length-append, bytes_eq, ◌||◌}
use Rattle.std.specs.Prelude.{ℤ}
use Rattle.std.specs.List.{flat_map}
use Rattle.std.proofs.lemmas.List.{length-map}
use Rattle.rtx_tree.specs.declared.machine.SymbolAt.{SymbolAt}
use Rattle.run_memory.specs.Symbols.{symbol_address}
use Rattle.rv_text.specs.declared.line.Line.{Line}
use Rattle.rv_text.specs.declared.line.CodeItem.{CodeItem}
use Rattle.rv_text.specs.declared.line.CodeItem.TheVariants.{Label, Code}
use Rattle.rv_word.specs.Word.{encode}
use Rattle.rv_word.specs.declared.spelling.Spelling.{Spelling}
use Rattle.rv_word.specs.declared.spelling.Spelling.TheVariants.{One, Near, Leap, Long, Far}
use Rattle.rv_unit.specs.Names.{spelling_named}
use Rattle.rv_unit.specs.Words.{Placed, bases_from, item_bases, line_bases}
use Rattle.rv_image.specs.Image.{entries_from, first_entry, first_outside, is_function, item_symbols, names_symbol, outside_from, outside_names, size_of, sizes, symbols_named, unknown, AreLeast}
use Rattle.rv_image.specs.declared.image.CodeUnit.{CodeUnit}
use Rattle.words_run.proofs.Fill.{words_fill}

-- an address that two words can build, and that a call may have
abbrev pub IsNear : ℕ → Type 0
IsNear address = (address + 2048 < 2 ^ 31) × (address % 4 ≡ 0)

abbrev pub AllNear : List SymbolAt → Type 0
AllNear [] = Unit {0}
AllNear (symbol ∷ symbols) = IsNear symbol.address × AllNear symbols

near_append : (xs ys : List SymbolAt) → AllNear xs → AllNear ys → AllNear (xs ++ ys)
near_append [] ys first second = second
near_append (x ∷ xs) ys first second = (first.0, near_append xs ys first.1 second)

pub found_near : (symbols : List SymbolAt) (name : List ℕ) (address : ℕ) → AllNear symbols → symbol_address symbols name ≡ Some address → IsNear address
found_near [] name address near is = cc
found_near (symbol ∷ symbols) name address near is = by (bytes_eq symbol.name name) is (found_near symbols name address near.1)
  where
    by : (b : Bool) → (if b then Some symbol.address else symbol_address symbols name) ≡ Some address → (symbol_address symbols name ≡ Some address → IsNear address) → IsNear address
    by true some left = let same : symbol.address ≡ address = cc in subst IsNear same near.0
    by false some left = left some

-- ---- functions

entries_near : (address : ℕ) (units : List CodeUnit) (sets : List (List Bool)) → address % 4 ≡ 0 → address + 4 * sizes units sets ≤ 2 ^ 30 + 1048572 → AllNear (entries_from address units sets)
entries_near address [] sets aligned small = tt
entries_near address (unit ∷ units) [] aligned small = tt
entries_near address (unit ∷ units) (longs ∷ sets) aligned small =
    ((omega (arith, small), aligned), entries_near (address + 4 * size_of unit.items longs) units sets (omega (arith, aligned)) (omega (arith, small)))

-- ---- symbols outside

outside_near : (address : ℕ) (names : List (List ℕ)) → address % 4 ≡ 0 → address + 4096 * length names + 2048 < 2 ^ 31 → AllNear (outside_from address names)
outside_near address [] aligned small = tt
outside_near address (name ∷ names) aligned small =
    ((omega (arith, small), aligned), outside_near (address + 4096) names (omega (arith, aligned)) (omega (arith, small)))

fewer : (known : List ℕ → Bool) (names : List (List ℕ)) → length (unknown known names) ≤ length names
fewer known [] = omega arith
fewer known (name ∷ names) = by (known name) (fewer known names) (fewer (λ other. bytes_eq name other || known other) names)
  where
    by : (b : Bool) → length (unknown known names) ≤ length names → length (unknown (λ other. bytes_eq name other || known other) names) ≤ length names → length (if b then unknown known names else name ∷ unknown (λ other. bytes_eq name other || known other) names) ≤ suc (length names)
    by true old new = omega (arith, old)
    by false old new = omega (arith, new)

-- a line that names a symbol has two words
two_words : (spelling : Option Spelling) (line : Line) (long : Bool) (further : ℤ) (address : ℕ) → 2 * length (if names_symbol spelling then line.target ∷ [] else []) ≤ length (line_bases spelling line long further address)
two_words None line long further address = omega arith
two_words (Some (One op rd rs1 rs2 number)) line long further address = omega arith
two_words (Some (Near op rs1 rs2)) line long further address = omega arith
two_words (Some Leap) line long further address = omega arith
two_words (Some Long) line long further address = omega arith
two_words (Some (Far op through)) line long further address = omega arith

item_two : (unit : Placed) (at : ℕ) (item : CodeItem) → 2 * length (item_symbols item) ≤ length (item_bases unit at item)
item_two unit at (Label function uid) = omega arith
item_two unit at (Code line) = two_words (spelling_named line.name) line _ _ _

items_two : (unit : Placed) (items : List CodeItem) (at : ℕ) → 2 * length (flat_map item_symbols items) ≤ length (bases_from unit at items)
items_two unit [] at = omega arith
items_two unit (item ∷ items) at =
    omega (arith, item_two unit at item, items_two unit items (at + 1), length-append (item_symbols item) (flat_map item_symbols items), length-append (item_bases unit at item) (bases_from unit (at + 1) items))

-- each function has a set
units_two : (units : List CodeUnit) (sets : List (List Bool)) → AreLeast units sets → 2 * length (symbols_named units) ≤ sizes units sets
units_two [] sets least = omega arith
units_two (unit ∷ units) [] least = absurd least
units_two (unit ∷ units) (longs ∷ sets) least =
    let placed : Placed = record { items = unit.items; longs = longs; symbols = [] } in
    omega (arith, items_two placed unit.items 0, length-map (bases_from placed 0 unit.items) encode, words_fill placed, units_two units sets least.1, length-append (flat_map item_symbols unit.items) (symbols_named units))

-- all symbols of an image
pub image_near : (units : List CodeUnit) (sets : List (List Bool)) → AreLeast units sets → 4 * sizes units sets ≤ 1048572 → AllNear (entries_from first_entry units sets ++ outside_from first_outside (outside_names units))
image_near units sets least small =
    near_append (entries_from first_entry units sets) (outside_from first_outside (outside_names units)) (entries_near first_entry units sets (omega arith) (omega (arith, small)))
    (outside_near first_outside (outside_names units) (omega arith) (omega (arith, fewer (is_function units) (symbols_named units), units_two units sets least, small)))
