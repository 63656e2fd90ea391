-- Where names stand first in a list.
use Rattle.std.specs.Prelude.{ℕ, Bool, true, false, List, Option}
use Rattle.md_iter.specs.declared.definition.DefinitionKind.{DefinitionKind}
use Rattle.md_iter.specs.declared.definition.DefinitionKind.TheVariants.{Mode, Code, Int}
use Rattle.name_places.specs.declared.places.Places.{Places}
use Rattle.name_places.specs.Places.{place_in}
use Rattle.md_iter.specs.declared.firsts.KindPlaces.{KindPlaces}

-- whether two kinds are the same, for lists that the definitions of a text are kept in
abbrev pub agree : DefinitionKind → DefinitionKind → Bool
agree Mode Mode = true
agree Code Code = true
agree Int Int = true
agree _ _ = false

-- the places of the names of a kind
abbrev pub of_kind : KindPlaces → DefinitionKind → Places
of_kind places Mode = places.modes
of_kind places Code = places.codes
of_kind places Int = places.ints

-- the place of a kind and a name
abbrev pub place_of_kind : KindPlaces → DefinitionKind → List ℕ → Option ℕ
place_of_kind places kind name = place_in (of_kind places kind) name
