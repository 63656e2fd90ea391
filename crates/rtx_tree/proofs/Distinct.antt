-- A list of names in which a test finds no name twice holds each at one place alone.
use Rattle.std.proofs.Common.{◌≡◌, ℕ, zero, suc, Bool, true, false, ◌&&◌, ◌||◌, not, List, [], ◌∷◌, map, Some, refl, ap, ◌∙◌}
use Rattle.std.specs.Prelude.{slice_get, bytes_eq, option_map}
use Rattle.std.proofs.lemmas.Option.{slice_get-map}
use Rattle.std.proofs.lemmas.Slice.Eq.{bytes_eq-Decides}
use Rattle.rtx_tree.specs.declared.code.Code.{Code}
use Rattle.rtx_tree.specs.Code.{code_name, all_codes, HasOnce}
use Rattle.rtx_tree.specs.Registers.{reg_names}

abbrev is_in : List ℕ → List (List ℕ) → Bool
is_in name [] = false
is_in name (other ∷ others) = bytes_eq name other || is_in name others

abbrev are_different : List (List ℕ) → Bool
are_different [] = true
are_different (name ∷ names) = not (is_in name names) && are_different names

second : (a b : Bool) → b ≡ true → (a || b) ≡ true
second true b holds = refl
second false b holds = holds

both : (a b : Bool) → (not a && b) ≡ true → (a ≡ false) × (b ≡ true)
both true b holds = cc
both false b holds = (refl, holds)

is_in-stands : (name : List ℕ) (names : List (List ℕ)) (i : ℕ) → slice_get names i ≡ Some name → is_in name names ≡ true
is_in-stands name [] i stands = cc
is_in-stands name (other ∷ others) zero stands = let same : name ≡ other = cc in let yes = (bytes_eq-Decides name other).1 same in cc
is_in-stands name (other ∷ others) (suc i) stands = second (bytes_eq name other) (is_in name others) (is_in-stands name others i stands)

one_place : (names : List (List ℕ)) (i j : ℕ) (name : List ℕ) → are_different names ≡ true → slice_get names i ≡ Some name → slice_get names j ≡ Some name → i ≡ j
one_place [] i j name different here there = cc
one_place (first ∷ names) zero zero name different here there = refl
one_place (first ∷ names) zero (suc j) name different here there = let is : first ≡ name = cc in let no = (both (is_in first names) (are_different names) different).0 in let yes = is_in-stands name names j there in cc
one_place (first ∷ names) (suc i) zero name different here there = let is : first ≡ name = cc in let no = (both (is_in first names) (are_different names) different).0 in let yes = is_in-stands name names i here in cc
one_place (first ∷ names) (suc i) (suc j) name different here there = ap suc (one_place names i j name (both (is_in first names) (are_different names) different).1 here there)

-- no two registers have one name
pub one_register : (i j : ℕ) (name : List ℕ) → slice_get reg_names i ≡ Some name → slice_get reg_names j ≡ Some name → i ≡ j
one_register i j name = one_place reg_names i j name refl

-- a code stands where its name does
name_at : (c : Code) (i : ℕ) → slice_get all_codes i ≡ Some c → slice_get (map code_name all_codes) i ≡ Some (code_name c)
name_at c i here = slice_get-map code_name all_codes i ∙ ap (option_map code_name) here

-- no two codes of the list have one name, so none stands twice
pub has_once : HasOnce
has_once c i j here there = one_place (map code_name all_codes) i j (code_name c) refl (name_at c i here) (name_at c j there)
