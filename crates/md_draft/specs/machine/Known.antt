-- Names that are looked up.
use Rattle.std.specs.Prelude.{◌≡◌, ℕ, List}
use Rattle.std.specs.Option.{is_some}
use Rattle.name_places.specs.declared.places.Places.{Places}
use Rattle.name_places.specs.Places.{place_in}
use Rattle.md_draft.specs.Compact.{is_named}

-- what is found is what stands among some names
abbrev pub Knows : Places → List (List ℕ) → Type 0
Knows places names = (name : List ℕ) → is_some (place_in places name) ≡ is_named names name
