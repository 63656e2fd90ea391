-- The first of some values that has a name: where a name is given twice, the first counts.
use Rattle.std.specs.Prelude.{ℕ, ℤ, Bool, List, Option, option_map, position}
use Rattle.std.specs.List.{find}
use Rattle.std.specs.Str.{bytes_eq}
use Rattle.rtx_tree.specs.declared.constants.Constant.{Constant}

-- the first of a name
abbrev pub first_named : {A : Type 0} → (A → List ℕ) → List A → List ℕ → Option A
first_named name_in values name = find (λ v. bytes_eq (name_in v) name) values

-- where it stands
abbrev pub place_named : {A : Type 0} → (A → List ℕ) → List A → List ℕ → Option ℕ
place_named name_in values name = position (λ v. bytes_eq (name_in v) name) values

-- the number of the first constant of a name
abbrev pub constant_named : List Constant → List ℕ → Option ℤ
constant_named constants name = option_map (λ c. c.number) (first_named (λ c. c.name) constants name)
