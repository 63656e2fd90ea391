use Rattle.std.proofs.Common.{◌≡◌, List, ℕ, position, take}
use Rattle.std.specs.Str.{bytes_eq}
use Rattle.name_places.specs.Places.{place_in}
use Rattle.name_places.proofs.table.places_of.Given as goal

abbrev pub invariant-loop-at : goal.invariant-loop-at
invariant-loop-at g l = (name : List ℕ) → place_in l.places name ≡ position (λ d. bytes_eq (g.D.Named.name d) name) (take l.at l.all)
