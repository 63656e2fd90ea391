-- Where names stand first in a list.
use Rattle.std.specs.Prelude.{ℕ, List, Option}
use Rattle.std.specs.Str.{bytes_eq}
use Rattle.std.specs.HashMap.{get_by}
use Rattle.name_places.specs.declared.places.Places.{Places}

-- the place of a name
abbrev pub place_in : Places → List ℕ → Option ℕ
place_in places name = get_by (λ text. bytes_eq name text.items) places.by_name
