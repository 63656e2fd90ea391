-- What the steps of the assembly give, by the layouts of the functions.
use Rattle.std.specs.Prelude.{◌≡◌, ℕ, ◌+◌, ◌*◌, Bool, List, [], ◌∷◌, ◌++◌, is_some}
use Rattle.name_places.specs.Places.{place_in}
use Rattle.name_places.specs.declared.places.Places.{Places}
use Rattle.rtx_tree.specs.declared.machine.SymbolAt.{SymbolAt}
use Rattle.rv_unit.specs.Layout.{IsLayout}
use Rattle.rv_unit.specs.Words.{words_of}
use Rattle.rv_unit.specs.declared.layout.Layout.{Layout}
use Rattle.rv_image.specs.Image.{first_entry, first_outside, outside_from, outside_names, unknown}
use Rattle.rv_image.specs.declared.image.CodeUnit.{CodeUnit}
use Rattle.rv_image.specs.declared.image.Image.{Image}

-- each function has its layout
abbrev pub AreLaid : List CodeUnit → List Layout → Type 0
AreLaid [] [] = Unit {0}
AreLaid [] (layout ∷ layouts) = ⊥
AreLaid (unit ∷ units) [] = ⊥
AreLaid (unit ∷ units) (layout ∷ layouts) = IsLayout unit.items layout × AreLaid units layouts

-- how many words all have
abbrev pub words_in : List Layout → ℕ
words_in [] = 0
words_in (layout ∷ layouts) = layout.size + words_in layouts

abbrev pub entries_in : ℕ → List CodeUnit → List Layout → List SymbolAt
entries_in address [] layouts = []
entries_in address (unit ∷ units) [] = []
entries_in address (unit ∷ units) (layout ∷ layouts) =
    record { name = unit.name; address = address } ∷ entries_in (address + 4 * layout.size) units layouts

abbrev pub words_by : List SymbolAt → List CodeUnit → List Layout → List ℕ
words_by symbols [] layouts = []
words_by symbols (unit ∷ units) [] = []
words_by symbols (unit ∷ units) (layout ∷ layouts) =
    words_of (record { items = unit.items; longs = layout.longs; symbols = symbols }) ++ words_by symbols units layouts

-- whether a name was put
abbrev pub knows : Places → List ℕ → Bool
knows known name = is_some (place_in known name)

-- From some names and those that are known to others: the unknown ones of some symbols came in.
-- What follows is what all symbols give from the first on.
abbrev pub Takes : Places → List (List ℕ) → Places → List (List ℕ) → List (List ℕ) → Type 0
Takes known names new_known new_names symbols = (tail : List (List ℕ)) → new_names ++ unknown (knows new_known) tail ≡ names ++ unknown (knows known) (symbols ++ tail)

-- the image by the layouts
pub record IsLaidImage (units : List CodeUnit) (layouts : List Layout) (image : Image) : Type 0 where
  pub entries : image.entries ≡ entries_in first_entry units layouts
  pub outside : image.outside ≡ outside_from first_outside (outside_names units)
  pub words : image.words ≡ words_by (image.entries ++ image.outside) units layouts
