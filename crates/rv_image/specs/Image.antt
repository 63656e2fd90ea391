-- The image of some functions: their words one behind the other, and the addresses of symbols.
use Rattle.std.specs.Prelude.{◌≡◌, ◌≢◌, ℕ, ◌+◌, ◌*◌, ◌^◌, ◌<◌, ◌≤◌, Bool, true, false, List, [], ◌∷◌, ◌++◌, ◌||◌, length, Option, Some, None, if◌then◌else◌, bytes_eq, Result, Ok, Err}
use Rattle.std.specs.List.{flat_map}
use Rattle.long_branches.specs.Branches.{place, IsLeast}
use Rattle.rtx_tree.specs.Limit.{most_image}
use Rattle.rtx_tree.specs.declared.machine.SymbolAt.{SymbolAt}
use Rattle.rv_text.specs.declared.line.CodeItem.{CodeItem}
use Rattle.rv_text.specs.declared.line.CodeItem.TheVariants.{Label, Code}
use Rattle.rv_word.specs.declared.spelling.Spelling.{Spelling}
use Rattle.rv_word.specs.declared.spelling.Spelling.TheVariants.{One, Near, Leap, Long, Far}
use Rattle.rv_unit.specs.Names.{spelling_named}
use Rattle.rv_unit.specs.Layout.{pieces_of}
use Rattle.rv_unit.specs.Words.{words_of}
use Rattle.rv_image.specs.declared.image.CodeUnit.{CodeUnit}
use Rattle.rv_image.specs.declared.image.Image.{Image}
use Rattle.rv_image.specs.declared.image.AssembleRefusal.{AssembleRefusal}
use Rattle.rv_image.specs.declared.image.AssembleRefusal.TheVariants.{Limit, Memory}

-- ---- functions

-- each function has its least set of long branches
abbrev pub AreLeast : List CodeUnit → List (List Bool) → Type 0
AreLeast [] [] = Unit {0}
AreLeast [] (longs ∷ sets) = ⊥
AreLeast (unit ∷ units) [] = ⊥
AreLeast (unit ∷ units) (longs ∷ sets) =
    IsLeast (pieces_of unit.items) longs × AreLeast units sets

-- how many words a function has
abbrev pub size_of : List CodeItem → List Bool → ℕ
size_of items longs = place (pieces_of items) longs (length items)

abbrev pub sizes : List CodeUnit → List (List Bool) → ℕ
sizes [] sets = 0
sizes (unit ∷ units) [] = 0
sizes (unit ∷ units) (longs ∷ sets) = size_of unit.items longs + sizes units sets

-- functions stand one behind the other, and a word has four bytes
abbrev pub entries_from : ℕ → List CodeUnit → List (List Bool) → List SymbolAt
entries_from address [] sets = []
entries_from address (unit ∷ units) [] = []
entries_from address (unit ∷ units) (longs ∷ sets) =
    record { name = unit.name; address = address } ∷ entries_from (address + 4 * size_of unit.items longs) units sets

-- ---- symbols of which the image has no function

-- whether a line names a symbol
abbrev pub names_symbol : Option Spelling → Bool
names_symbol None = false
names_symbol (Some (One op rd rs1 rs2 number)) = false
names_symbol (Some (Near op rs1 rs2)) = false
names_symbol (Some Leap) = false
names_symbol (Some Long) = false
names_symbol (Some (Far op through)) = true

abbrev pub item_symbols : CodeItem → List (List ℕ)
item_symbols (Label function uid) = []
item_symbols (Code line) = if names_symbol (spelling_named line.name) then line.target ∷ [] else []

-- the symbols that the lines name, in their order
abbrev pub symbols_named : List CodeUnit → List (List ℕ)
symbols_named units = flat_map (λ unit. flat_map item_symbols unit.items) units

-- whether a function has a name
abbrev pub is_function : List CodeUnit → List ℕ → Bool
is_function [] name = false
is_function (unit ∷ units) name = bytes_eq unit.name name || is_function units name

-- the names that are not known, each once; from then on a name is known
abbrev pub unknown : (List ℕ → Bool) → List (List ℕ) → List (List ℕ)
unknown known [] = []
unknown known (name ∷ names) =
    if known name then unknown known names else name ∷ unknown (λ other. bytes_eq name other || known other) names

-- the symbols that are no function, in the order of their first lines
abbrev pub outside_names : List CodeUnit → List (List ℕ)
outside_names units = unknown (is_function units) (symbols_named units)

-- they stand 4,096 bytes from one another
abbrev pub outside_from : ℕ → List (List ℕ) → List SymbolAt
outside_from address [] = []
outside_from address (name ∷ names) =
    record { name = name; address = address } ∷ outside_from (address + 4096) names

-- ---- the image

-- the words of the functions, for symbols at these addresses
abbrev pub words_with : List SymbolAt → List CodeUnit → List (List Bool) → List ℕ
words_with symbols [] sets = []
words_with symbols (unit ∷ units) [] = []
words_with symbols (unit ∷ units) (longs ∷ sets) =
    words_of (record { items = unit.items; longs = longs; symbols = symbols }) ++ words_with symbols units sets

-- the first function's entry, and the first outside symbol's address
abbrev pub first_entry : ℕ
first_entry = 2 ^ 30

abbrev pub first_outside : ℕ
first_outside = 2 ^ 21

-- the image, by the least sets of long branches
pub record IsImage (units : List CodeUnit) (image : Image) : Type 0 where
  pub sets : List (List Bool)
  pub are_least : AreLeast units sets
  pub within : 4 * sizes units sets ≤ most_image
  pub entries : image.entries ≡ entries_from first_entry units sets
  pub outside : image.outside ≡ outside_from first_outside (outside_names units)
  pub words : image.words ≡ words_with (image.entries ++ image.outside) units sets

-- the image would have so many bytes, and that is too many
pub record IsTooLong (units : List CodeUnit) (size : ℕ) : Type 0 where
  pub sets : List (List Bool)
  pub are_least : AreLeast units sets
  pub size_is : size ≡ 4 * sizes units sets
  pub more : most_image < size

-- functions are assembled, or refused where they are too long; memory may run out
abbrev pub IsAssembled : List CodeUnit → Result Image AssembleRefusal → Type 0
IsAssembled units (Ok image) = IsImage units image
IsAssembled units (Err (Limit size)) = IsTooLong units size
IsAssembled units (Err Memory) = Unit {0}

-- there is one image at most, or one number of bytes that are too many
abbrev pub IsOne : Type 0
IsOne = (units : List CodeUnit) (a b : Result Image AssembleRefusal) → a ≢ Err Memory → b ≢ Err Memory → IsAssembled units a → IsAssembled units b → a ≡ b
