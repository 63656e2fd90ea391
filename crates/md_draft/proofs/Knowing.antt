-- Names that are looked up: one name more.
use Rattle.std.proofs.Common.{◌≡◌, ℕ, ◌+◌, ◌<◌, Bool, true, false, ◌&&◌, ◌||◌, not, List, ◌∷◌, Option, Some, None, if◌then◌else◌, length, drop, get_or, refl, sym, ap, ◌∙◌}
use Rattle.std.specs.Option.{is_some, option_or}
use Rattle.std.specs.Str.{bytes_eq}
use Rattle.std.proofs.lemmas.List.{at_drop_more}
use Rattle.name_places.specs.declared.places.Places.{Places}
use Rattle.name_places.specs.Places.{place_in}
use Rattle.md_draft.specs.Compact.{is_named, are_new}
use Rattle.md_draft.specs.machine.Known.{Knows}

found : (o : Option ℕ) (b : Bool) (place : ℕ) → is_some (option_or o (if b then Some place else None)) ≡ (b || is_some o)
found None true place = refl
found None false place = refl
found (Some n) true place = refl
found (Some n) false place = refl

pub knows_more : (old new : Places) (names : List (List ℕ)) (name : List ℕ) (place : ℕ) → Knows old names → ((other : List ℕ) → place_in new other ≡ option_or (place_in old other) (if bytes_eq name other then Some place else None)) → Knows new (name ∷ names)
knows_more old new names name place were put other =
    ap is_some (put other) ∙ found (place_in old other) (bytes_eq name other) place ∙ ap (λ b. bytes_eq name other || b) (were other)

module _ (places : Places) (known names : List (List ℕ)) (i : ℕ) (name : List ℕ) (whole : Bool) (within : i < length names) (is : name ≡ get_or names i name) (knows : Knows places known) (so_far : are_new known (drop i names) ≡ whole) where
  here : (not (is_named known name) && are_new (name ∷ known) (drop (i + 1) names)) ≡ whole
  here = ap (λ (u : List ℕ). are_new known (u ∷ drop (i + 1) names)) is ∙ sym (at_drop_more (are_new known) names i name within) ∙ so_far

  -- a name that is new
  pub new_more : is_some (place_in places name) ≡ false → are_new (name ∷ known) (drop (i + 1) names) ≡ whole
  new_more none = ap (λ b. not b && are_new (name ∷ known) (drop (i + 1) names)) (sym none ∙ knows name) ∙ here

  -- one that is not
  pub new_stops : is_some (place_in places name) ≡ true → false ≡ whole
  new_stops there = ap (λ b. not b && are_new (name ∷ known) (drop (i + 1) names)) (sym there ∙ knows name) ∙ here
